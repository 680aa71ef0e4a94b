-- What a pass adds, where a loop leads on in the pass that enters it first (`adding`), pass after pass (`unentered_more`).
use Prim.Native.Nat.{ℕ, ◌^◌, ◌<◌}
use mathlib.Core.Path.{◌≡◌}
use mathlib.Core.Bool.{not, ◌&&◌, ◌||◌}
use mathlib.Core.Logic.{◌⊎◌, inl, inr, ⊎_elim, ◌↔◌}
use lib.Dec.{lit<}
use lib.ListN.{get_or}
use Rattle.masks.specs.Graph.{Target}
use Rattle.masks.specs.Mask.{member, ◌∈◌}
use Rattle.masks.proofs.Member.{union_left, union_right, union_cases, intersection_left, intersection_right, intersection_both, difference_left, difference_not, difference_cases}
use Rattle.search.specs.declared.Claims.{Claims}
use Rattle.search.specs.Graph.{Graph}
use Rattle.search.specs.Hops.{Lettered, Claimed, BackOrMix, Touched, Hop, Onward}
use Rattle.search.specs.Passes.{NewTargets, Unentered, Adding}

pub unentered_start : (g : Graph) (force : Claims) (p found : ℕ) → Unentered g force.loops p force.loops found
unentered_start g force p found = record { in_force = λ i h. h; others = λ i t h e k. inl h }

module _ (g : Graph) (force : Claims) (p omegas found : ℕ) where
  pub adding_none : (last : ℕ) → NewTargets (Hop g force p) found last 0 → Adding g force p omegas found last 0 omegas
  adding_none last is = record { fits = lit< tt; targets = is; fewer = λ i h. h; entered = λ i t h e k. inl h }

  pub unentered_more : (last next rest sum : ℕ) → Unentered g force.loops p omegas found → Adding g force p omegas found last next rest
      → ((t : ℕ) → member t sum ≡ (member t found || member t next)) → Unentered g force.loops p rest sum
  unentered_more last next rest sum now is is_sum = record {
    in_force = λ i h. now.in_force i (is.fewer i h);
    others = λ i t h e k. ⊎_elim
        (λ o. ⊎_elim inl (λ x. inr (⊎_elim (union_left found next sum is_sum t) (union_right found next sum is_sum t) x)) (is.entered i t o e k))
        (λ x. inr (union_left found next sum is_sum t x)) (now.others i t h e k);
  }

  module _ (last from at entered letter claim near inside next rest : ℕ) (now : Unentered g force.loops p omegas found)
      (is_from : (t : ℕ) → member t from ≡ (member t last && member t p))
      (is_at : (i : ℕ) → (i ∈ at) ↔ ((s : ℕ) × (s ∈ from) × (s ∈ get_or g.sets i 0)))
      (is_entered : (t : ℕ) → member t entered ≡ (member t at && member t omegas))
      (is_letter : Onward (Lettered g) from letter) (is_claim : Touched g force entered from claim)
      (is_near : (t : ℕ) → member t near ≡ (member t letter || member t claim))
      (is_inside : (t : ℕ) → member t inside ≡ (member t near && member t p))
      (is_next : (t : ℕ) → member t next ≡ (member t inside && not (member t found)))
      (is_rest : (t : ℕ) → member t rest ≡ (member t omegas && not (member t entered))) where
    abbrev Stepped : ℕ → Type 0
    Stepped t = (s : ℕ) × (s ∈ last) × Hop g force p s t

    step : (s t : ℕ) → s ∈ from → t ∈ p → Lettered g s t ⊎ Claimed g force s t → Stepped t
    step s t h k e = (s, intersection_left last p from is_from s h, record { start = intersection_right last p from is_from s h; end = k; kind = e })

    by_claim : (t : ℕ) → t ∈ p → Target g.lefts entered t ⊎ ((s : ℕ) × (s ∈ from) × BackOrMix g force s t) → Stepped t
    by_claim t k = ⊎_elim
        (λ x. let i = x.source in
        let y = (is_at i).0 (intersection_left at omegas entered is_entered i x.is) in
        step y.0 t y.1 k (inr (inl (inl (i, now.in_force i (intersection_right at omegas entered is_entered i x.is), y.2, x.edge)))))
        (λ y. step y.0 t y.1 k (inr (⊎_elim (λ e. inl (inr e)) inr y.2)))

    sound : (t : ℕ) → t ∈ next → Stepped t
    sound t h =
        let i = difference_left inside found next is_next t h in
        let k = intersection_right near p inside is_inside t i in
        ⊎_elim (λ x. let y = (is_letter t).0 x in step y.0 t y.1 k (inl y.2)) (λ x. by_claim t k ((is_claim t).0 x))
        (union_cases letter claim near is_near t (intersection_left near p inside is_inside t i))

    -- a state near, in p, is found or new
    lands : (t : ℕ) → t ∈ p → t ∈ near → (t ∈ found) ⊎ (t ∈ next)
    lands t k h = difference_cases inside found next is_next t (intersection_both near p inside is_inside t h k)

    by_left : (i t : ℕ) → i ∈ entered → t ∈ get_or g.lefts i 0 → t ∈ near
    by_left i t h e = union_right letter claim near is_near t ((is_claim t).1 (inl (record { source = i; is = h; edge = e })))

    by_step : (s t : ℕ) → s ∈ from → t ∈ p → Lettered g s t ⊎ Claimed g force s t → (t ∈ found) ⊎ (t ∈ next)
    by_step s t h k = ⊎_elim
        (λ e. lands t k (union_left letter claim near is_near t ((is_letter t).1 (s, h, e))))
        (⊎_elim
        (⊎_elim
        (λ e. ⊎_elim
        (λ o. lands t k (by_left e.0 t (intersection_both at omegas entered is_entered e.0 ((is_at e.0).1 (s, h, e.2)) o) e.3))
        inl (now.others e.0 t e.1 e.3 k))
        (λ e. other (inl e)))
        (λ e. other (inr e)))
      where
        other : BackOrMix g force s t → (t ∈ found) ⊎ (t ∈ next)
        other e = lands t k (union_right letter claim near is_near t ((is_claim t).1 (inr (s, h, e))))

    pub adding : next < 2 ^ 64 → Adding g force p omegas found last next rest
    adding fits = record {
      fits = fits;
      targets = λ t. (
        (λ h. (sound t h, difference_not inside found next is_next t h)),
        λ x. let y = x.0 in let e = y.2 in
            ⊎_elim (λ k. absurd (x.1 k)) (λ k. k) (by_step y.0 t (intersection_both last p from is_from y.0 y.1 e.start) e.end e.kind),
      );
      fewer = difference_left omegas entered rest is_rest;
      entered = λ i t h e k. ⊎_elim (λ x. inr (lands t k (by_left i t x e))) inl (difference_cases omegas entered rest is_rest i h);
    }
