-- The openings of a machine that calls make: each claim once, and it holds with the claims opened in earlier rounds (`grounded`), none of a round that
-- is not done (`round_most`); they are the claims open after some rounds (`open_by`).
use Prim.Native.Nat.{ℕ, zero, suc, ◌≤◌}
use mathlib.Core.Path.{◌≡◌, refl, ap, sym, subst}
use mathlib.Core.Logic.{◌↔◌}
use mathlib.Core.List.Memᴰ
use mathlib.Core.List.{List, [], map}
use native.Mathlib.Omega.{arith}
use Rattle.lists.specs.Tests.{◌among◌, Once}
use Rattle.lists.specs.Order.{Sorted}
use Rattle.rows.specs.declared.Row.{Row}
use Rattle.orderings.specs.Steps.{Claim}
use Rattle.orderings.specs.Systems.{System, Holds}
use Rattle.orderings.specs.Rounds.{OpenBy, Opens}
use Rattle.orderings.specs.Timelines.{timelines}
use Rattle.orderings.proofs.Depths.{holds_more}
use Rattle.orderings.proofs.Timelines.{lawful}
use Rattle.machine.specs.declared.Phase.{Phase}
use Rattle.machine.specs.declared.Phase.TheVariants.{Open, Running, Settled}
use Rattle.machine.specs.Machine.{Opening, Machine, open_with, open_claims}
use Rattle.machine.specs.WellFormed.{after, Worked, Made, WellFormed}
use Rattle.machine.specs.Statements.{opening_key}
use Rattle.machine.specs.Word.{Before}
use Rattle.machine.proofs.Settling.{After, after_after, opened_in}
use Rattle.machine.proofs.Openings.{after_listed}

-- in the sheet's order, each claim once, in a round from the first on, and it holds with the claims opened in earlier rounds
pub record Grounded (rows : List Row) (l : List Opening) : Type 0 where
  pub order : Sorted opening_key l
  pub once : Once (map (λ (o : Opening). o.claim) l)
  pub low : (o : Opening) → o among l → 1 ≤ o.round
  pub holds : (o : Opening) → o among l → Holds (timelines rows) (Before l o.claim) o.claim

none_grounded : (rows : List Row) → Grounded rows []
none_grounded rows = record { order = tt; once = tt; low = λ o i. absurd (Memᴰ.not-nil i); holds = λ o i. absurd (Memᴰ.not-nil i) }

module _ (rows : List Row) (k : ℕ) where
  abbrev S : System
  S = timelines rows

  abbrev l : List Opening
  l = (after rows k).openings

  abbrev is_after : After rows k (after rows k)
  is_after = after_after rows k

  -- what is open when round j + 1 begins was opened before it
  before : (j : ℕ) (o : Opening) → o among l → o.round ≡ suc j → (d : Claim) → OpenBy S j d → Before l o.claim d
  before j o i g d h = let r = opened_in rows j d h in let p : Opening = record { round = r.0; claim = d } in
      (o, p, i, (is_after.numbers p).1 (omega (arith, r.1, ((is_after.numbers o).0 i).0, g), r.2), refl, refl, omega (arith, r.1, g))

  opens_first : (j : ℕ) (c : Claim) → Opens S j c → 1 ≤ j
  opens_first zero c h = absurd h
  opens_first (suc j) c h = omega arith

  after_grounded : Grounded rows l
  after_grounded = record {
    order = (after_listed rows k).order;
    once = (after_listed rows k).once;
    low = λ o i. opens_first o.round o.claim ((is_after.numbers o).0 i).1;
    holds = λ o i. holds o i o.round refl ((is_after.numbers o).0 i).1;
  }
    where
      holds : (o : Opening) → o among l → (j : ℕ) → o.round ≡ j → Opens S j o.claim → Holds S (Before l o.claim) o.claim
      holds o i zero g h = absurd h
      holds o i (suc j) g h = holds_more S (lawful rows) (λ d x. before j o i g d x) o.claim h.0

module _ (m : Machine) (w : WellFormed m) where
  abbrev OpenAt : Machine → Type 0
  OpenAt x = (k : ℕ) × ((c : Claim) → c among open_claims x ↔ OpenBy (timelines m.rows) k c)

  -- its claims are those that are open after some rounds
  pub open_by : OpenAt m
  unfolding OpenBy
  open_by = by m.phase w.made
    where
      worked : Worked m → OpenAt m
      worked k = subst OpenAt (sym k.1) (k.0, (after_after m.rows k.0).claims)

      none : OpenAt (open_with m.rows)
      none = (0, λ c. (Memᴰ.not-nil, λ o. absurd o))

      by : (p : Phase) → Made m p → OpenAt m
      by Open k = subst OpenAt (sym k) none
      by Running k = worked k
      by (Settled v) k = worked k

  pub grounded : Grounded m.rows m.openings
  grounded = by m.phase w.made
    where
      worked : Worked m → Grounded m.rows m.openings
      worked k = subst (λ (x : Machine). Grounded m.rows x.openings) (sym k.1) (after_grounded m.rows k.0)

      by : (p : Phase) → Made m p → Grounded m.rows m.openings
      by Open k = subst (λ (x : Machine). Grounded m.rows x.openings) (sym k) (none_grounded m.rows)
      by Running k = worked k
      by (Settled v) k = worked k

  pub round_most : (o : Opening) → o among m.openings → o.round ≤ m.rounds
  round_most o i = by m.phase w.made
    where
      worked : Worked m → o.round ≤ m.rounds
      worked k = let a = after_after m.rows k.0 in
          omega (arith, ((a.numbers o).0 (subst (λ (x : Machine). o among x.openings) k.1 i)).0, a.count, ap (λ (x : Machine). x.rounds) k.1)

      by : (p : Phase) → Made m p → o.round ≤ m.rounds
      by Open k = absurd (Memᴰ.not-nil (subst (λ (x : Machine). o among x.openings) k i))
      by Running k = worked k
      by (Settled v) k = worked k
