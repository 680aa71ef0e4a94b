-- A loop that measures the parts of a frame one after another: `sum_start`, `sum_more`, `sum_end`.
use Rattle.std.specs.Prelude as Code
use Prim.Native.Nat.{ℕ, ◌+◌, ◌<◌}
use mathlib.Core.Path.{◌≡◌, refl, ap, sym, ◌∙◌, subst}
use mathlib.Core.Option.{Option, none, some}
use mathlib.Core.List.Memᴰ
use mathlib.Core.List.{List, [], ◌∷◌, ◌++◌, append_assoc, append-nil}
use lib.ListN.{length, length-append}
use native.Mathlib.Omega.{arith}
use Rattle.lists.specs.Tests.{◌among◌, gather}
use Rattle.lists.proofs.Places.{gather_last}
use Rattle.orderings.specs.Steps.{Claim, Step, needs}
use Rattle.orderings.specs.Systems.{InForce}
use Rattle.machine.specs.Machine.{Machine}
use Rattle.machine.specs.Expression.{round_of}
use Rattle.search.specs.Graph.{Graph}
use Rattle.machine.specs.declared.Step as Coded
use Rattle.machine.specs.declared.StepLabel as Labels
use Rattle.machine.specs.declared.StepLabel.TheVariants.{Letter, Omega, Back, Mix}
use Rattle.machine.specs.Labels.{label_of}
use Rattle.tours.specs.declared.frames.Frame.{Frame}
use Rattle.tours.specs.declared.frames.Cursor.{Cursor}
use Rattle.tours.specs.Frames.{Held}
use Rattle.tours.specs.Parts.{Part, parts}
use Rattle.tours.specs.Cursors.{StandsAt, Stands, Begins, Advances, Chosen, ShowsPart}
use Rattle.expression.specs.Texts.{before_text, step_text, part_text}
use Rattle.expression.specs.Frames.{Noted, Frames, Goes, LeadsOn}
use Rattle.expression.specs.Lengths.{Measured, Known, Adds, AddsLabel, AddsStep, MeasuresFrame}
use Rattle.expression.proofs.Texts.{writer, letter_spelled, parts_go, parts_earlier, live_part}

-- ---- one part

-- the step of a part, if it has one, is a step of the machine, whose claim opened before the round
abbrev GoesBefore : Machine → ℕ → Option Step → Type 0
GoesBefore m round none = Unit {0}
GoesBefore m round (some t) = Goes m t.from t.label t.to × InForce (λ c. round_of m.openings c < round) (needs t.label)

in_force_of : {In : Claim → Type 0} (o : Option Claim) → ((c : Claim) → o ≡ some c → In c) → InForce In o
in_force_of none h = tt
in_force_of (some c) h = h c refl

module _ {m : Machine} {g : Graph} {words : List ℕ} {n : ℕ} {b : Graph} {k : ℕ} (held : Held m g words n b k) where
  goes_before : {f : Frame} → Frames m g k f → (p : Part) → p among parts m f → (o : Option Step) → p.step ≡ o → GoesBefore m f.round o
  goes_before fr p i none e = tt
  goes_before {f} fr p i (some t) e = (
    parts_go m held.formed f.shape f.set p i t e,
    in_force_of (needs t.label) (λ c h. omega (arith, fr.rounded, (parts_earlier m held.formed f.shape f.set p i t e c h).1)),
  )

  -- what is added for a choice is the text of the step that it is
  step_adds : {opened : List ℕ} → Noted m opened → {round most : ℕ} {bytes : List (Code.Option ℕ)} → Known m g k opened round most bytes → (a : ℕ) (o : Option Step) (choice : Code.Option Coded.Step) (old new : Code.Option ℕ)
      → Chosen a o choice → GoesBefore m round o → AddsStep b k bytes most choice old new → Adds most (step_text (writer m) o) old new
  step_adds noted known a none Code.None old new h go d = d
  step_adds noted known a none (Code.Some s) old new h go d = absurd h
  step_adds noted known a (some t) Code.None old new h go d = absurd h
  step_adds {opened} noted {round} {most} {bytes} known a (some t) (Code.Some s) old new h go d =
      subst (λ x. Adds most (writer m x) old new) (sym h) (by s.label (subst (λ x. GoesBefore m round (some x)) h go) d)
    where
      by : (l : Labels.StepLabel) → GoesBefore m round (some (record { from = a; label = label_of l; to = s.to })) → AddsLabel b k bytes most l s.to old new
          → Adds most (writer m (record { from = a; label = label_of l; to = s.to })) old new
      by (Letter x) go d = subst (λ l. Adds most l old new) (sym (letter_spelled m a x s.to)) d
      by (Omega P) go d = d m g words opened n round a held noted known go.0 go.1
      by (Back P) go d = d m g words opened n round a held noted known go.0 go.1
      by (Mix P) go d = d m g words opened n round a held noted known go.0 go.1

-- ---- the loop

-- the parts before the cursor are measured
pub record Summed (m : Machine) (words : List ℕ) (n : ℕ) (b : Graph) (f : Frame) (most : ℕ) (layers : List ℕ) (c : Code.Option Cursor) (r : Code.Option ℕ) : Type 0 where
  pub done : List Part
  pub rest : List Part
  pub all : parts m f ≡ done ++ rest
  pub stands : Stands m words n b f layers c rest
  pub measured : Measured most (length (gather (part_text (writer m)) done)) r

module _ (words : List ℕ) (n : ℕ) (b : Graph) (k : ℕ) (bytes : List (Code.Option ℕ)) (f : Frame) (most : ℕ) where
  -- of every machine that the arrays hold, where the texts of the claims opened before the frame's round are known
  abbrev pub Sums : List ℕ → Code.Option Cursor → Code.Option ℕ → Type 0
  Sums layers c r = (m : Machine) (g : Graph) (opened : List ℕ) → Held m g words n b k → Noted m opened → Frames m g k f → Known m g k opened f.round most bytes
      → Summed m words n b f most layers c r

  pub sum_start : (layers : List ℕ) (c : Code.Option Cursor) → Begins b f layers c → Sums layers c (Code.Some 0)
  sum_start layers c begins m g opened held noted fr known =
      record { done = []; rest = parts m f; all = refl; stands = begins m g words n k held fr.framed; measured = (refl, omega arith) }

  pub sum_more : (layers : List ℕ) (c : Cursor) (old mid new : Code.Option ℕ) (choice : Code.Option Coded.Step) (to : ℕ) (layers' : List ℕ) (c' : Code.Option Cursor) → Sums layers (Code.Some c) old
      → ShowsPart words n b f layers c choice → Adds most (before_text c.before) old mid → AddsStep b k bytes most choice mid new
      → LeadsOn c.state choice to → Advances b f layers c to layers' c' → Sums layers' c' new
  sum_more layers c old mid new choice to layers' c' sums shows before step leads advances m g opened held noted fr known =
      let s = sums m g opened held noted fr known in
      let x = live_part m words n b f layers c s.rest s.stands in
      let p = x.0 in let l = x.1 in
      let here = subst (StandsAt m words n b f layers c) x.2 s.stands in
      let shown = shows m g k held fr.framed p l here in
      let all : parts m f ≡ s.done ++ (p ∷ l) = s.all ∙ ap (λ (t : List Part). s.done ++ t) x.2 in
      let i : p among parts m f = subst (λ (t : List Part). p among t) (sym all) (Memᴰ.append_right s.done (Memᴰ.head refl)) in
      let W = writer m in
      let size : ℕ = length (gather (part_text W) s.done) in
      let e : size + length (before_text c.before) + length (step_text W p.step) ≡ length (gather (part_text W) (s.done ++ (p ∷ []))) =
      omega (
        arith,
        ap (length {A = ℕ}) (gather_last (part_text W) s.done p),
        length-append (gather (part_text W) s.done) (part_text W p),
        length-append (before_text p.before) (step_text W p.step),
        ap (λ (j : Code.Option ℕ). length (before_text j)) shown.0,
      ) in
      record {
        done = s.done ++ (p ∷ []);
        rest = l;
        all = all ∙ sym (append_assoc s.done (p ∷ []) l);
        stands = advances m g words n k held fr.framed p l here (leads p.step shown.1);
        measured = subst (λ (j : ℕ). Measured most j new) e
            (step_adds held noted known c.state p.step choice mid new shown.1 (goes_before held fr p i p.step refl) step (size + length (before_text c.before)) (before size s.measured));
      }

  pub sum_end : (layers : List ℕ) (r : Code.Option ℕ) → Sums layers Code.None r → MeasuresFrame words n b k bytes f most r
  sum_end layers r sums m g opened held noted fr known =
      let s = sums m g opened held noted fr known in
      let e : s.done ≡ parts m f = sym (s.all ∙ ap (λ (t : List Part). s.done ++ t) s.stands ∙ append-nil s.done) in
      subst (λ (t : List Part). Measured most (length (gather (part_text (writer m)) t)) r) e s.measured
