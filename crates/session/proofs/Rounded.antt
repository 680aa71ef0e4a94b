-- What the rounds keep is what the record holds: from the record, and back to it.
use Prim.Native.Nat.{ℕ}
use mathlib.Core.Path.{◌≡◌, refl, ap, sym, ◌∙◌, subst}
use mathlib.Core.List.{List}
use lib.ListN.{replicate}
use Rattle.rows.specs.declared.Row.{Row}
use Rattle.rows.specs.Rows.{AllFit}
use Rattle.orderings.specs.Steps.{loops, mixes}
use Rattle.machine.specs.declared.Phase.TheVariants.{Open}
use Rattle.machine.specs.Machine.{Machine, closed, next_round, reopened}
use Rattle.machine.specs.Marks.{Marked}
use Rattle.search.specs.Graph.{graph_of}
use Rattle.automaton.specs.declared.Automaton.{Automaton}
use Rattle.automaton.specs.Promise.{GivesLetters, automaton_of}
use Rattle.rounds.specs.declared.Progress.{Progress}
use Rattle.rounds.specs.Promises.{Given, Mirrors, Closes, DoesRound}
use Rattle.rounds.proofs.OpenClaims.{no_rounds}
use Rattle.whole_sheet.proofs.Automata.{given_rows}
use Rattle.session.specs.declared.Session.{Session}
use Rattle.session.specs.Record.{record_of, Represents}
use Rattle.session.specs.Standing.{rounds_in, with_rounds, Reads, LettersOf, with_now}
use Rattle.session.proofs.Whole.{standing_of, sets_in_of}

module _ (x : Marked) (s : Session) (p : Represents x s) where
  -- the masks of the machine's rows
  pub given_of : (a : Automaton) → Reads s a → Given x.now.rows (graph_of a.graph) a.initials a.finals s.set_count
  given_of a h = given_rows p.formed.now_formed.table (sets_in_of x s p) (h x p)

  pub mirrors_of : Mirrors x.now s.loop_rounds s.mix_rounds s.phase s.rounds
  unfolding record_of
  mirrors_of = record {
    loops_are = ap (λ (t : Session). t.loop_rounds) p.whole;
    mixes_are = ap (λ (t : Session). t.mix_rounds) p.whole;
    phase_is = ap (λ (t : Session). t.phase) p.whole;
    count_is = ap (λ (t : Session). t.rounds) p.whole;
  }

  -- the record of a machine with the same rows
  pub kept_record : (to : Machine) (now : Progress) → to.rows ≡ x.now.rows → Mirrors to now.loop_rounds now.mix_rounds now.phase now.rounds
      → with_rounds s now ≡ record_of (with_now x to)
  unfolding record_of
  kept_record to now same k = ap (λ (t : Session). with_rounds t now) p.whole ∙ rw (k.loops_are, k.mixes_are, k.phase_is, k.count_is, same) refl

  pub closed_record : (graph : List ℕ) (initials finals : ℕ) (now : Progress) → LettersOf s graph initials finals → Closes (graph_of graph) initials finals now
      → with_rounds s now ≡ record_of (with_now x (closed x.now))
  unfolding closed
  closed_record graph initials finals now h c =
      let t = p.formed.now_formed.table in
      let g : GivesLetters x.now.rows (automaton_of graph initials finals) =
      subst (λ (l : List Row). GivesLetters l (automaton_of graph initials finals)) (standing_of x s p) (h (subst AllFit (sym (standing_of x s p)) t.fit)) in
      kept_record (closed x.now) now refl (c x.now (record { table = t; letters = g.letters; initial_iff = g.initial_iff; final_iff = g.final_iff }))

  pub round_record : (a : Automaton) (now : Progress) → Reads s a
      → DoesRound (graph_of a.graph) a.initials a.finals s.set_count (rounds_in s) now
      → with_rounds s now ≡ record_of (with_now x (next_round x.now))
  unfolding next_round
  round_record a now h d = kept_record (next_round x.now) now refl (d x.now p.formed.now_formed (given_of a h) mirrors_of)

  pub reopened_record : with_rounds s (record { loop_rounds = replicate 64 0; mix_rounds = replicate 64 0; phase = Open; rounds = 0 }) ≡ record_of (with_now x (reopened x.now))
  reopened_record = let few = p.formed.now_formed.table.few_sets in
      kept_record (reopened x.now) (record { loop_rounds = replicate 64 0; mix_rounds = replicate 64 0; phase = Open; rounds = 0 }) refl
      (record { loops_are = sym (no_rounds x.now.rows loops few); mixes_are = sym (no_rounds x.now.rows mixes few); phase_is = refl; count_is = refl })
