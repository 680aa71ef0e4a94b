-- `masks::is_subset` meets its contract: a is a part of b where a without b is empty.
use mathlib.Core.Logic.{⊎_elim}
use borrow.Author.Tests.{eqb-true, eq-eqb}
use Rattle.masks.proofs.Member.{in_none, none, difference_left, difference_not, difference_cases}
use Rattle.masks.proofs.is_subset.Goals as goal

pub returns : goal.returns
returns c =
    let a = c.args.a in
    let b = c.args.b in
    let r = c.difference.result in
    let is = c.difference.ensures in
    record {
      to = λ e t h. ⊎_elim (λ g. g) (λ g. absurd (in_none t (rw (eqb-true r 0 e) at g))) (difference_cases a b r is t h);
      of = λ f. eq-eqb r 0 (none r c.difference.type_inv (λ t h. difference_not a b r is t h (f t (difference_left a b r is t h))));
    }
