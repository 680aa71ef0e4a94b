-- From the table, the graph and the rounds that the arrays hold to the machine: where its expression fits, it is written (`express_text`), and where not, the
-- call refuses (`express_short`).
use Rattle.std.specs.Prelude.{Option, None, Some, Ok, Err}
use Prim.Native.Nat.{ℕ, ◌≤◌}
use mathlib.Core.Path.{◌≡◌, ap, sym, ◌∙◌, subst}
use mathlib.Core.List.{List, ◌++◌}
use lib.ListN.{length}
use Rattle.orderings.specs.Steps.{loops, mixes}
use Rattle.causes.specs.declared.Cause.TheVariants.{ShortBuffer}
use Rattle.machine.specs.declared.Success.TheVariants.{Wrote}
use Rattle.machine.specs.declared.Verdict.TheVariants.{NonEmpty}
use Rattle.machine.specs.declared.Phase.TheVariants.{Settled}
use Rattle.machine.specs.Machine.{Machine}
use Rattle.machine.specs.WellFormed.{WellFormed}
use Rattle.machine.specs.Expression.{expression_of}
use Rattle.machine.specs.Calls.{TellsText}
use Rattle.machine.proofs.Answers.{refusal, tells_text, tells_short}
use Rattle.row_table.specs.Letters.{LettersIn}
use Rattle.search.specs.declared.Endpoints.{Endpoints}
use Rattle.search.specs.Graph.{Graph, TurnedGraph}
use Rattle.rounds.specs.declared.Progress.{Progress}
use Rattle.rounds.specs.Arrays.{rounds_of}
use Rattle.rounds.specs.Promises.{Given, Mirrors}
use Rattle.rounds.proofs.Noting.{rounds_length}
use Rattle.lists.specs.Writing as Writing
use Rattle.tours.specs.declared.frames.Shape.{Shape}
use Rattle.tours.specs.declared.frames.Shape.TheVariants.{Whole}
use Rattle.tours.specs.declared.frames.Frame.{Frame}
use Rattle.tours.specs.Frames.{Held}
use Rattle.expression.specs.Texts.{shape_text}
use Rattle.expression.specs.Frames.{Noted, round_for, Frames, WalkFrame}
use Rattle.expression.specs.Lengths.{Measured, Known, MeasuresFrame, NotesAll}
use Rattle.expression.specs.Promise.{PutsFrame, ExpressesWalk}
use Rattle.expression.proofs.Texts.{whole_text}

-- the arrays hold the machine
held_by : (m : Machine) (words : List ℕ) (n k : ℕ) (g back : Graph) (initials finals : ℕ) → WellFormed m → LettersIn m.rows words n
    → Given m.rows g initials finals k → TurnedGraph g back → Held m g words n back k
held_by m words n k g back initials finals w letters given t = record { formed = w; letters = letters; turned = t; masked = given.masked; count = sym given.sets_in.count }

-- the array has the rounds of its claims
noted_by : (m : Machine) (p : Progress) (opened : List ℕ) → WellFormed m → Mirrors m p.loop_rounds p.mix_rounds p.phase p.rounds
    → (length p.loop_rounds ≡ 64 → length p.mix_rounds ≡ 64 → opened ≡ p.loop_rounds ++ p.mix_rounds) → Noted m opened
noted_by m p opened w h e = let few = w.table.few_sets in
    e (ap length h.loops_are ∙ rounds_length m few loops) (ap length h.mixes_are ∙ rounds_length m few mixes)
    ∙ (ap (λ (l : List ℕ). l ++ p.mix_rounds) h.loops_are ∙ ap (λ (l : List ℕ). rounds_of m loops ++ l) h.mixes_are)

-- what is at hand once the walk's frame is made: the graph turned round, the rounds of the claims in one array, and the lengths of their texts
pub record Prepared (words : List ℕ) (n k : ℕ) (g : Graph) (points : Endpoints) (p : Progress) (back : Graph) (opened : List ℕ) (bytes : List (Option ℕ)) (old : List ℕ) (walk : Frame) : Type 0 where
  pub turned : TurnedGraph g back
  pub joined : length p.loop_rounds ≡ 64 → length p.mix_rounds ≡ 64 → opened ≡ p.loop_rounds ++ p.mix_rounds
  pub notes : NotesAll words n back k opened p.rounds (length old) bytes
  pub frames : WalkFrame k opened points.initials points.finals walk

module _ {words : List ℕ} {n k : ℕ} {g : Graph} {points : Endpoints} {p : Progress} {back : Graph} {opened : List ℕ} {bytes : List (Option ℕ)} {old : List ℕ} {walk : Frame}
    (q : Prepared words n k g points p back opened bytes old walk) where
  module _ (m : Machine) (w : WellFormed m) (settled : m.phase ≡ Settled NonEmpty) (letters : LettersIn m.rows words n)
      (given : Given m.rows g points.initials points.finals k) (mirrors : Mirrors m p.loop_rounds p.mix_rounds p.phase p.rounds) where
    held : Held m g words n back k
    held = held_by m words n k g back points.initials points.finals w letters given q.turned

    noted : Noted m opened
    noted = noted_by m p opened w mirrors q.joined

    framed : Frames m g k walk × (walk.shape ≡ Whole)
    framed = q.frames back m g words n held noted settled given.initial_iff given.final_iff

    -- the text of the walk's frame is the expression
    text_is : shape_text m walk.shape walk.set ≡ expression_of m
    text_is = ap (λ (x : Shape). shape_text m x walk.set) framed.1 ∙ whole_text m walk.set

    -- the texts of all claims are known, since the walk's frame is of a round after all
    known : Known m g k opened walk.round (length old) bytes
    known = subst (λ (r : ℕ). Known m g k opened r (length old) bytes) (sym (framed.0.rounded ∙ ap (λ (x : Shape). round_for m x walk.set) framed.1))
        (q.notes m g held noted mirrors.count_is)

    measured : (r : Option ℕ) → MeasuresFrame words n back k bytes walk (length old) r → Measured (length old) (length (expression_of m)) r
    measured r h = subst (λ (l : List ℕ). Measured (length old) (length l) r) text_is (h m g opened held noted framed.0 known)

    told_short : MeasuresFrame words n back k bytes walk (length old) None → TellsText (expression_of m) old old (Err (refusal ShortBuffer 0))
    told_short h = tells_short (expression_of m) old (measured None h)

    told_text : (new : List ℕ) (r count : ℕ) → MeasuresFrame words n back k bytes walk (length old) (Some count)
        → PutsFrame words n back k opened walk old new r → TellsText (expression_of m) old new (Ok (Wrote r))
    told_text new r count h puts = let fits = (measured (Some count) h).1 in
        tells_text (expression_of m) old fits (subst (λ (l : List ℕ). Writing.Wrote l old new r) text_is (puts m g held noted framed.0 (subst (λ (l : List ℕ). length l ≤ length old) (sym text_is) fits)))

  -- the expression is longer than the buffer
  pub express_short : MeasuresFrame words n back k bytes walk (length old) None → ExpressesWalk words n k g points p old old (Err (refusal ShortBuffer 0))
  express_short h m w settled letters given mirrors = told_short m w settled letters given mirrors h

  -- it is not, and it is written
  pub express_text : (new : List ℕ) (r count : ℕ) → MeasuresFrame words n back k bytes walk (length old) (Some count)
      → PutsFrame words n back k opened walk old new r → ExpressesWalk words n k g points p old new (Ok (Wrote r))
  express_text new r count h puts m w settled letters given mirrors = told_text m w settled letters given mirrors new r count h puts
