-- New claims supply states: a step inside a set is one by the old claims or one by a new claim about a part of it (`step_cases`), so masks that are freed of
-- the new claims say no more than is lacking (`supplies`); steps back to states that have a step already free none. One claim after another: `supplying_from`, `supplying_more`, `supplying_end`.
use Prim.Native.Nat.{ℕ}
use mathlib.Core.Path.{◌≡◌, subst, sym, ◌∙◌}
use mathlib.Core.Bool.{Bool, false, ◌||◌}
use mathlib.Core.Logic.{◌⊎◌, inl, inr, ⊎_elim, ◌↔◌}
use mathlib.Core.List.{List}
use lib.Bits.{bit_and}
use lib.ListN.{get_or}
use Rattle.masks.specs.Mask.{member, ◌∈◌, ◌⊆◌, TakesLowest}
use Rattle.masks.proofs.Gathering.{Passed, passed_from, passed_end, passed_more}
use Rattle.masks.proofs.Member.{in_none, not_both, true_or_false, member_and, intersection_left, intersection_right, intersection_both, union_left, union_right, union_cases}
use Rattle.search.specs.declared.Claims.{Claims}
use Rattle.search.specs.Graph.{Graph, TurnedGraph}
use Rattle.search.specs.Hops.{Hop, Inner, InnerClaims, Unites, WithNew}
use Rattle.search.proofs.Hops.{hop_inner}
use Rattle.lacks.specs.Lacks.{LedAt, Supplies, AboveNew, TakenOut, Leads, ClaimStep, Freed, SuppliesClaim}

moved : {x y : ℕ} (t : ℕ) → x ≡ y → t ∈ x → t ∈ y
moved t e h = subst (λ (z : ℕ). t ∈ z) e h

-- of the places z inside p, the old ones
inner_old : (sets : List ℕ) (x y z p r : ℕ) → Unites x y z → Inner sets z p r → Inner sets x p (bit_and r x)
inner_old sets x y z p r is f i = (
  (λ h. (intersection_right r x (bit_and r x) (λ t. member_and t r x) i h, ((f i).0 (intersection_left r x (bit_and r x) (λ t. member_and t r x) i h)).1)),
  λ h. intersection_both r x (bit_and r x) (λ t. member_and t r x) i ((f i).1 (union_left x y z is i h.0, h.1)) h.0,
)

inner_cases : (sets : List ℕ) (x y z p r : ℕ) → Unites x y z → Inner sets z p r → (j : ℕ) → j ∈ r → (j ∈ bit_and r x) ⊎ ((j ∈ y) × (get_or sets j 0 ⊆ p))
inner_cases sets x y z p r is f j h = let k = (f j).0 h in
    ⊎_elim (λ o. inl (intersection_both r x (bit_and r x) (λ t. member_and t r x) j h o)) (λ n. inr (n, k.1)) (union_cases x y z is j k.0)

-- a step from a to b by a new claim about a part of p
abbrev NewStep : Graph → Claims → ℕ → ℕ → ℕ → Type 0
NewStep g new p a b = (j : ℕ) × ((j ∈ new.loops) ⊎ (j ∈ new.mixes)) × (get_or g.sets j 0 ⊆ p) × ClaimStep g new 0 j a b

module _ (g : Graph) {old new force : Claims} (is : WithNew old new force) {p : ℕ} {inner : Claims} (is_inner : InnerClaims g force p inner) where
  abbrev olds : Claims
  olds = record { loops = bit_and inner.loops old.loops; mixes = bit_and inner.mixes old.mixes }

  olds_inner : InnerClaims g old p olds
  olds_inner = record {
    loops_are = inner_old g.sets old.loops new.loops force.loops p inner.loops is.loops_are is_inner.loops_are;
    mixes_are = inner_old g.sets old.mixes new.mixes force.mixes p inner.mixes is.mixes_are is_inner.mixes_are;
  }

  loop_cases : (j : ℕ) → j ∈ inner.loops → (j ∈ olds.loops) ⊎ ((j ∈ new.loops) × (get_or g.sets j 0 ⊆ p))
  loop_cases = inner_cases g.sets old.loops new.loops force.loops p inner.loops is.loops_are is_inner.loops_are

  mix_cases : (j : ℕ) → j ∈ inner.mixes → (j ∈ olds.mixes) ⊎ ((j ∈ new.mixes) × (get_or g.sets j 0 ⊆ p))
  mix_cases = inner_cases g.sets old.mixes new.mixes force.mixes p inner.mixes is.mixes_are is_inner.mixes_are

  step_cases : (a b : ℕ) → Hop g inner p a b → Hop g olds p a b ⊎ NewStep g new p a b
  step_cases a b h = ⊎_elim (λ e. inl (record { start = h.start; end = h.end; kind = inl e }))
      (⊎_elim
      (⊎_elim
      (λ e. ⊎_elim (λ k. inl (record { start = h.start; end = h.end; kind = inr (inl (inl (e.0, k, e.2, e.3))) }))
      (λ k. inr (e.0, inl k.0, k.1, inl (k.0, inl (e.2, e.3)))) (loop_cases e.0 e.1))
      (λ e. ⊎_elim (λ k. inl (record { start = h.start; end = h.end; kind = inr (inl (inr (e.0, k, e.2, e.3))) }))
      (λ k. inr (e.0, inl k.0, k.1, inl (k.0, inr (in_none e.0, e.2, e.3)))) (loop_cases e.0 e.1)))
      (λ e. ⊎_elim (λ k. inl (record { start = h.start; end = h.end; kind = inr (inr (e.0, k, e.2, e.3)) }))
      (λ k. inr (e.0, inr k.0, k.1, inr (k.0, e.2, e.3))) (mix_cases e.0 e.1))) h.kind

-- inside a set with such a part, too, a step leads to each state of the part
led_inside : (g : Graph) (j : ℕ) {old inner : Claims} {p : ℕ} → LedAt g old j → get_or g.sets j 0 ⊆ p → InnerClaims g old p inner → (q : ℕ) → q ∈ get_or g.sets j 0 → (a : ℕ) × Hop g inner p a q
led_inside g j {old} {inner} {p} led part is q h = let x = led q h in
    (x.2.0, hop_inner g old old x.0 inner (get_or g.sets j 0) p (λ t k. k) (λ t k. k) part x.1 is x.2.0 q x.2.1)

module _ (g : Graph) (new : Claims) (led live : ℕ) where
  -- no mask gains a place, and all masks are freed of each new claim
  supplies : (before after : List ℕ) → ((q i : ℕ) → i ∈ get_or after q 0 → i ∈ get_or before q 0)
      → ((j : ℕ) → (j ∈ new.loops) ⊎ (j ∈ new.mixes) → Freed g new led live after j) → Supplies g new led live before after
  supplies before after fewer freed old force pieces places is sub is_led was i q h k =
      let w = was i q (sub i h) (fewer q i k) in record {
        has = w.has;
        unled = λ inner is_inner a s. let x = olds g is is_inner in let y = olds_inner g is is_inner in ⊎_elim (w.unled x y a)
            (λ n. ⊎_elim
            (λ f. freed n.0 n.1 i q a h n.2 k s.start (unless n.0 a q f n.3))
            (λ f. by_led n.0 a q n.3 (λ b. let z = led_inside g n.0 (is_led n.0 f) n.2 y q b in w.unled x y z.0 z.1)
            (freed n.0 n.1 i q a h n.2 k s.start)) (apart n.0)) (step_cases g is is_inner a q s);
        unspared = w.unspared;
      }
    where
      apart : (j : ℕ) → ¬ (j ∈ led) ⊎ (j ∈ led)
      apart j = ⊎_elim inr (λ f. inl (λ h. not_both h f)) (true_or_false (member j led))

      -- a step by a claim that is not told apart
      unless : (j a b : ℕ) → ¬ (j ∈ led) → ClaimStep g new 0 j a b → ClaimStep g new led j a b
      unless j a b f = ⊎_elim (λ x. inl (x.0, ⊎_elim inl (λ y. inr (f, y.1, y.2)) x.1)) inr

      -- it leads back to a state of the set, or on
      by_led : (j a b : ℕ) → ClaimStep g new 0 j a b → ¬ (b ∈ get_or g.sets j 0) → ¬ ClaimStep g new led j a b → ⊥
      by_led j a b c back on = ⊎_elim (λ x. ⊎_elim (λ y. on (inl (x.0, inl y))) (λ y. back y.2) x.1) (λ x. on (inr x)) c

  -- the masks are freed of the claims about the places that are passed
  pub record Supplying (places rest : ℕ) (before after : List ℕ) : Type 0 where
    pub fewer : (q i : ℕ) → i ∈ get_or after q 0 → i ∈ get_or before q 0
    pub freed : Passed (λ j. Freed g new led live after j) places rest

  pub supplying_from : {places rest : ℕ} (before : List ℕ) → rest ≡ places → Supplying places rest before before
  supplying_from before all = record { fewer = λ q i h. h; freed = passed_from all }

  pub supplying_more : {places rest low rest' : ℕ} {before mid after : List ℕ} → TakesLowest rest low rest' → Supplying places rest before mid
      → SuppliesClaim g new led live low mid after → Supplying places rest' before after
  supplying_more taken now claim = record {
    fewer = λ q i h. now.fewer q i (claim.fewer q i h);
    freed = passed_more taken now.freed (λ j n f i q a h s k. f i q a h s (claim.fewer q i k)) claim.freed;
  }

  pub supplying_end : {places rest : ℕ} {before after : List ℕ} → ((t : ℕ) → member t places ≡ (member t new.loops || member t new.mixes))
      → Supplying places rest before after → rest ≡ 0 → Supplies g new led live before after
  supplying_end {places} are now none = supplies _ _ now.fewer
      (λ j c. passed_end now.freed none j (⊎_elim (union_left new.loops new.mixes places are j) (union_right new.loops new.mixes places are j) c))

  -- the places above the set of a claim
  pub above_new : (places r : ℕ) → ((t : ℕ) → member t places ≡ (member t new.loops || member t new.mixes))
      → ((i : ℕ) → (i ∈ r) ↔ ((j : ℕ) × (j ∈ places) × ((i ∈ live) × (get_or g.sets j 0 ⊆ get_or g.sets i 0)))) → AboveNew g new live r
  above_new places r are all i = (
    (λ h. let x = (all i).0 h in (x.2.0, (x.0, union_cases new.loops new.mixes places are x.0 x.1, x.2.1))),
    λ h. let x = h.1 in
        (all i).1 (x.0, ⊎_elim (union_left new.loops new.mixes places are x.0) (union_right new.loops new.mixes places are x.0) x.1, (h.0, x.2)),
  )

  -- ---- one claim

  -- nothing is above
  pub claim_none : (j up : ℕ) (lack : List ℕ) → ((i : ℕ) → i ∈ live → get_or g.sets j 0 ⊆ get_or g.sets i 0 → i ∈ up) → up ≡ 0 → SuppliesClaim g new led live j lack lack
  claim_none j up lack over none = record {
    fewer = λ q i h. h;
    freed = λ i q a h s. absurd (in_none i (subst (λ (x : ℕ). i ∈ x) none (over i h s)));
  }

  -- of a set to each of whose states a step leads, only its limits
  pub claim_led : {before after : List ℕ} (j left up : ℕ) → j ∈ led → get_or g.lefts j 0 ≡ left → ((i : ℕ) → i ∈ live → get_or g.sets j 0 ⊆ get_or g.sets i 0 → i ∈ up)
      → TakenOut left up before after → SuppliesClaim g new led live j before after
  claim_led j left up is_led is_left over out = record {
    fewer = λ q i h. (out.left q i h).0;
    freed = λ i q a h s k b. ⊎_elim (λ x. ⊎_elim (λ y. (out.left q i k).1 (moved q is_left y.1) (over i h s)) (λ y. y.0 is_led) x.1)
        (λ x. (out.left q i k).1 (moved q is_left x.2) (over i h s));
  }

  module _ (j : ℕ) (sets : List ℕ) {p left right : ℕ} (up : ℕ) {looping : Bool} (is : looping ≡ member j new.loops)
      (sets_are : (i : ℕ) → get_or g.sets i 0 ≡ get_or sets i 0) (is_set : get_or g.sets j 0 ≡ p) (is_left : get_or g.lefts j 0 ≡ left)
      (is_right : get_or g.rights j 0 ≡ right) (over : (i : ℕ) → i ∈ live → get_or g.sets j 0 ⊆ get_or g.sets i 0 → i ∈ up) where
    pub claim_supplied : {before after : List ℕ} → Leads sets p left right up looping before after → SuppliesClaim g new led live j before after
    claim_supplied out = record {
      fewer = out.fewer;
      freed = λ i q a h s k b. ⊎_elim
          (λ x. ⊎_elim
          (λ y. out.omega_step (is ∙ x.0) q i (over i h s) k (moved q is_left y.1))
          (λ y. out.back_step (is ∙ x.0) q i a (over i h s) k (moved a is_right y.1) (moved a (sets_are i) b) (moved q is_set y.2)) x.1)
          (λ x. out.mix_step q i a (over i h s) k (moved a is_right x.1) (moved a (sets_are i) b) (moved q is_left x.2));
    }

-- the same set is above in the graph turned round
pub over_turned : {g back : Graph} → TurnedGraph g back → (live j up : ℕ) → ((i : ℕ) → i ∈ live → get_or g.sets j 0 ⊆ get_or g.sets i 0 → i ∈ up)
    → (i : ℕ) → i ∈ live → get_or back.sets j 0 ⊆ get_or back.sets i 0 → i ∈ up
over_turned turned live j up over i h s = over i h (λ t k. moved t (turned.sets_are i) (s t (moved t (sym (turned.sets_are j)) k)))

-- ---- places taken out of the masks of the states to which a claim leads; met has the places up whose sets have a state of right
module _ (sets : List ℕ) {p left up met : ℕ} (right : ℕ) (meets : (i a : ℕ) → i ∈ up → a ∈ right → a ∈ get_or sets i 0 → i ∈ met) {before : List ℕ} {looping : Bool} where
  pub leads_loop : {mid after : List ℕ} → TakenOut left up before mid → TakenOut p met mid after → Leads sets p left right up looping before after
  leads_loop {mid} {after} first then = record {
    fewer = λ q i h. (first.left q i (earlier q i h)).0;
    omega_step = λ l q i u h k. (first.left q i (earlier q i h)).1 k u;
    back_step = λ l q i a u h r s k. (then.left q i h).1 k (meets i a u r s);
    mix_step = λ q i a u h r s k. (first.left q i (earlier q i h)).1 k u;
  }
    where
      earlier : (q i : ℕ) → i ∈ get_or after q 0 → i ∈ get_or mid q 0
      earlier q i h = (then.left q i h).0

  pub leads_mix : {after : List ℕ} → looping ≡ false → TakenOut left met before after → Leads sets p left right up looping before after
  leads_mix none out = record {
    fewer = λ q i h. (out.left q i h).0;
    omega_step = λ l. absurd (not_both l none);
    back_step = λ l. absurd (not_both l none);
    mix_step = λ q i a u h r s k. (out.left q i h).1 k (meets i a u r s);
  }
