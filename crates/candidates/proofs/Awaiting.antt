-- Where a round may open a claim: at the places with no claim in force (`awaited_all`), and of these only at those above a claim that the last
-- round opened (`awaited_next`): elsewhere the claims about parts are those of the last round, and what held then is open.
use Prim.Native.Nat.{ℕ}
use mathlib.Core.Logic.{◌⊎◌, inl, inr, ⊎_elim}
use mathlib.Core.List.{List}
use lib.ListN.{get_or}
use Rattle.masks.specs.Mask.{member, ◌∈◌, ◌⊆◌}
use Rattle.masks.proofs.Member.{true_or_false, not_both, union_left, union_right, union_cases}
use Rattle.search.specs.declared.Claims.{Claims}
use Rattle.search.specs.Graph.{Graph}
use Rattle.search.specs.Hops.{Inner, InnerClaims, Unites, WithNew}
use Rattle.lacks.specs.Lacks.{AboveNew}
use Rattle.candidates.specs.Promises.{LoopsAt, MixesAt, OpensOn, LiveBelow, Paired, Awaited}

-- a place is in a mask, or not
in_or_out : (i m : ℕ) → (i ∈ m) ⊎ ¬ (i ∈ m)
in_or_out i m = ⊎_elim inl (λ e. inr (λ h. not_both h e)) (true_or_false (member i m))

module _ {g : Graph} {force : Claims} {n : ℕ} (live places : ℕ) (p : Paired g force n) (is_live : LiveBelow force n live) (part : places ⊆ live)
    (loop_at : (i : ℕ) → i ∈ live → LoopsAt g force i → i ∈ places) (mix_at : (i : ℕ) → i ∈ live → MixesAt g force i → i ∈ places) where
  -- the places that are neither live nor due have nothing more to open
  awaited : Awaited g force n places
  awaited = record {
    paired = p;
    live = λ i h. (is_live i).0 (part i h);
    loop_at = λ i l h k. ⊎_elim inr (λ o. inl (loop_at i ((is_live i).1 (l, k, o)) h)) (in_or_out i force.mixes);
    mix_at = λ i l h k. ⊎_elim (λ o. absurd (k (p.both i o h))) (λ o. mix_at i ((is_live i).1 (l, o, k)) h) (in_or_out i force.loops);
  }

-- new claims leave no new place without one
pub live_fewer : {old new force : Claims} {n : ℕ} (a b : ℕ) → WithNew old new force → LiveBelow old n a → LiveBelow force n b → b ⊆ a
live_fewer {old} {new} {force} a b is f g i h = let x = (g i).0 h in (f i).1 (
  x.0,
  (λ k. x.1 (union_left old.loops new.loops force.loops is.loops_are i k)),
  λ k. x.2 (union_left old.mixes new.mixes force.mixes is.mixes_are i k),
)

-- all places with no claim in force are tried
pub awaited_all : {g : Graph} {force : Claims} {n : ℕ} (live : ℕ) → Paired g force n → LiveBelow force n live → Awaited g force n live
awaited_all live p is = awaited live live p is (λ i h. h) (λ i h x. h) (λ i h x. h)

-- a set with no part that a new claim is about has the same claims about its parts as before
inner_old : (sets : List ℕ) (old new force p r : ℕ) → Unites old new force → ((j : ℕ) → j ∈ new → ¬ (get_or sets j 0 ⊆ p)) → Inner sets force p r → Inner sets old p r
inner_old sets old new force p r is none f j = (
  (λ h. let x = (f j).0 h in (⊎_elim (λ k. k) (λ k. absurd (none j k x.1)) (union_cases old new force is j x.0), x.1)),
  λ x. (f j).1 (union_left old new force is j x.0, x.1),
)

module _ {g : Graph} {old new force : Claims} {n : ℕ} (live places : ℕ) (last : OpensOn g old n new) (is : WithNew old new force) (p : Paired g force n)
    (is_live : LiveBelow force n live) (above : AboveNew g new live places) where
  inner_same : (i : ℕ) → i ∈ live → ¬ (i ∈ places) → {inner : Claims} → InnerClaims g force (get_or g.sets i 0) inner → InnerClaims g old (get_or g.sets i 0) inner
  inner_same i l out {inner} f = record {
    loops_are = inner_old g.sets old.loops new.loops force.loops _ inner.loops is.loops_are (λ j h k. out ((above i).1 (l, (j, inl h, k)))) f.loops_are;
    mixes_are = inner_old g.sets old.mixes new.mixes force.mixes _ inner.mixes is.mixes_are (λ j h k. out ((above i).1 (l, (j, inr h, k)))) f.mixes_are;
  }

  loop_above : (i : ℕ) → i ∈ live → LoopsAt g force i → i ∈ places
  loop_above i l h = ⊎_elim (λ x. x) (λ out. let x = (is_live i).0 l in absurd (x.1 (union_right old.loops new.loops force.loops is.loops_are i
      ((last.loop_iff i).1 (
        x.0,
        record { inner = h.inner; is_inner = inner_same i l out h.is_inner; joined = h.joined },
        λ k. x.1 (union_left old.loops new.loops force.loops is.loops_are i k),
      ))))) (in_or_out i places)

  mix_above : (i : ℕ) → i ∈ live → MixesAt g force i → i ∈ places
  mix_above i l h = ⊎_elim (λ x. x) (λ out. let x = (is_live i).0 l in absurd (x.2 (union_right old.mixes new.mixes force.mixes is.mixes_are i
      ((last.mix_iff i).1 (
        x.0,
        record {
          inner = h.inner;
          is_inner = inner_same i l out h.is_inner;
          entrances = h.entrances;
          are_entrances = h.are_entrances;
          exits = h.exits;
          are_exits = h.are_exits;
          covered = h.covered;
        },
        λ k. x.2 (union_left old.mixes new.mixes force.mixes is.mixes_are i k),
      ))))) (in_or_out i places)

  pub awaited_next : Awaited g force n places
  awaited_next = awaited live places p is_live (λ i h. ((above i).0 h).0) loop_above mix_above
