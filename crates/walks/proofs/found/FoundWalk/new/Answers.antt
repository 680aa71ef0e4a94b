-- `FoundWalk::new` meets its contract. The invariant: the letters of the steps read are bytes.
use mathlib.Core.Path.{◌≡◌, refl, ap, sym, ◌∙◌}
use mathlib.Core.Logic.{⊎_elim}
use mathlib.Core.List.Memᴰ
use borrow.Author.Rules.{rules}
use native.Mathlib.Omega.{arith}
use lib.ListN.{length, take}
use Rattle.std.proofs.lemmas.List.{take_more}
use Rattle.machine.specs.declared.StepLabel.TheVariants.{Letter}
use Rattle.machine.specs.declared.Step.{Step}
use Rattle.walks.proofs.found.FoundWalk.new.Goals as goal

pub loop-i-init : goal.loop-i-init
loop-i-init c t m = absurd (Memᴰ.not-nil m)

pub loop-i-preserved : goal.loop-i-preserved
loop-i-preserved c t m =
    let l = c.args.steps in
    let i = c.loop-i.i in
    let all : length l ≡ 64 = search rules in
    ⊎_elim (c.loop-i.invariant t)
    (λ n a e. c.read.ensures a (ap (λ (s : Step). s.label) (sym (Memᴰ.eq_of_singleton n)) ∙ e))
    (Memᴰ.append_cases (take i l) (rw (take_more l i (record { label = Letter 0; to = 0 }) (omega arith)) at m))

pub invariant_of-result : goal.invariant_of-result
invariant_of-result c =
    let i : c.loop-i.i ≡ c.args.count = omega arith in
    record { low = omega (arith, c.requires.0); few = c.requires.1; lead_low = c.requires.2; byte_letters = rw i at c.loop-i.invariant }

pub returns : goal.returns
returns c = (refl, refl, refl)
