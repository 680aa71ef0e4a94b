-- What loading a batch into the masks of a graph promises.
use Rattle.std.specs.Prelude.{ℕ, ◌≤◌, ◌≡◌, not, ◌&&◌, ◌↔◌, List, [], Result}
use Rattle.masks.specs.Mask.{member}
use Rattle.rows.specs.declared.Row.{Row}
use Rattle.rows.specs.Batch.{feed}
use Rattle.machine.specs.declared.Refusal.{Refusal}
use Rattle.machine.specs.Machine.{load_row}
use Rattle.search.specs.Graph.{part, graph_of, Indexed, Unindexed}
use Rattle.row_table.specs.Arrays.{SetsIn, Comes}
use Rattle.row_table.specs.Letters.{LettersIn}
use Rattle.automaton.specs.Promise.{Gives, automaton_of}
use Rattle.automaton.specs.Striking.{Finishes}
use Rattle.automaton.specs.Passed.{Passed}
use Rattle.loader.specs.declared.LoadedGraph.{LoadedGraph}
use Rattle.loader.specs.declared.MetGraph.{MetGraph}
use Rattle.loader.specs.Arrays.{WordAt}
use Rattle.loader.specs.Met.{LetterWord}

-- the masks of the rows before anything is struck, with their sets in order, and the words of their letter rows
pub record HoldsMasks (graph letters : List ℕ) (r : MetGraph) (rows : List Row) : Type 0 where
  pub few_sets : r.set_count ≤ 64
  pub few_letters : r.letter_count ≤ 256
  pub passed : Passed (Unit {0}) (part graph 64) r.set_count rows graph r.seen.initials r.seen.finals r.seen.struck
  pub bare : Unindexed graph r.set_count
  pub sets_in : SetsIn rows (part graph 64) r.set_count
  pub words_are : (w : ℕ) → WordAt letters r.letter_count w ↔ LetterWord rows w

-- a batch met as if no row stood: the arrays hold the table that it leads to, or the first row that fails gives its cause and its place
abbrev pub MeetsRows : List ℕ → List ℕ → List ℕ → Result MetGraph Refusal → Type 0
MeetsRows batch graph letters r = Comes (HoldsMasks graph letters) (feed load_row [] batch) r

-- what is struck taken out of a graph and of two masks, and the other parts of the graph written
pub record Completes (met : MetGraph) (old new : List ℕ) (r : LoadedGraph) : Type 0 where
  pub finishes : Finishes met.set_count met.seen.struck old new
  pub initials_are : (t : ℕ) → member t r.points.initials ≡ (member t met.seen.initials && not (member t met.seen.struck))
  pub finals_are : (t : ℕ) → member t r.points.finals ≡ (member t met.seen.finals && not (member t met.seen.struck))
  pub same_sets : r.set_count ≡ met.set_count
  pub same_letters : r.letter_count ≡ met.letter_count

-- the graph of the rows with its sets in order and all its parts, their initial and final states, and the words of their letter rows
pub record HoldsGraph (graph letters : List ℕ) (r : LoadedGraph) (rows : List Row) : Type 0 where
  pub few_sets : r.set_count ≤ 64
  pub few_letters : r.letter_count ≤ 256
  pub gives : Gives rows (graph_of graph).sets r.set_count (automaton_of graph r.points.initials r.points.finals)
  pub indexed : Indexed graph
  pub sets_in : SetsIn rows (graph_of graph).sets r.set_count
  pub letters_in : LettersIn rows letters r.letter_count

-- a batch loaded into no rows: the arrays hold the table that it leads to, or the first row that fails gives its cause and its place
abbrev pub LoadsGraph : List ℕ → List ℕ → List ℕ → Result LoadedGraph Refusal → Type 0
LoadsGraph batch graph letters r = Comes (HoldsGraph graph letters) (feed load_row [] batch) r
