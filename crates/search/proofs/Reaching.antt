-- A search among all states that goes on when new claims come into force: its first pass follows the new claims only.
use Prim.Native.Nat.{ℕ}
use mathlib.Core.Path.{◌≡◌}
use mathlib.Core.Bool.{not, ◌&&◌, ◌||◌}
use mathlib.Core.Logic.{inl, inr, ⊎_elim}
use Rattle.masks.specs.Mask.{member, ◌∈◌}
use Rattle.masks.proofs.Member.{member_lt, union_left, union_right, union_cases, difference_left, difference_not, difference_cases}
use Rattle.search.specs.declared.Claims.{Claims}
use Rattle.search.specs.Graph.{Graph}
use Rattle.search.specs.Hops.{Claimed, Hop, one, more, Onward, all_mask, Reached}
use Rattle.search.specs.Passes.{PassesToEnd, Followed, NewTargets}
use Rattle.search.specs.Promises.{SeenBefore}
use Rattle.search.proofs.Accepting.{has_all}
use Rattle.search.proofs.Chains.{chain_map}
use Rattle.search.proofs.Hops.{claimed_new, hop_old, hop_either}
use Rattle.search.proofs.Passing.{Led, onward_same, onward_now}

-- next are the states to which the new claims lead from the start and from what was seen, and are new
module _ (g : Graph) (force new : Claims) (initials seen : ℕ) (old : SeenBefore g force new initials seen) (from near next : ℕ)
    (is_from : (t : ℕ) → member t from ≡ (member t initials || member t seen)) (is_near : Onward (Claimed g new) from near)
    (is_next : (t : ℕ) → member t next ≡ (member t near && not (member t seen))) where
  abbrev Now : ℕ → ℕ → Type 0
  Now = Hop g force all_mask

  -- a step by an old claim leads to a state seen
  seen_old : (a b : ℕ) → a ∈ from → Hop g old.old all_mask a b → b ∈ seen
  seen_old a b h e = (old.reached b).1
      (⊎_elim (λ k. (a, k, one e)) (λ k. let y = (old.reached a).0 k in (y.0, y.1, more y.2 e)) (union_cases initials seen from is_from a h))

  -- so the targets of all of them that are new are those by new claims
  targets_new : NewTargets Now seen from next
  targets_new t = (
    (λ h. let x = (is_near t).0 (difference_left near seen next is_next t h) in (
      (
        x.0,
        x.1,
        record {
          start = has_all x.0 (member_lt x.0 from x.1);
          end = has_all t (member_lt t next h);
          kind = inr (claimed_new g old.with_new x.0 t x.2);
        },
      ),
      difference_not near seen next is_next t h,
    )),
    λ x. ⊎_elim (λ e. absurd (x.1 (seen_old x.0.0 t x.0.1 e)))
        (λ e. ⊎_elim (λ h. absurd (x.1 h)) (λ h. h) (difference_cases near seen next is_next t ((is_near t).1 (x.0.0, x.0.1, e))))
        (hop_either g old.with_new all_mask x.0.0 t x.0.2),
  )

  followed_from : Followed Now initials seen from
  followed_from = record {
    within = union_cases initials seen from is_from;
    others = λ a b h e. inl (⊎_elim (union_left initials seen from is_from a) (union_right initials seen from is_from a) h);
  }

  seen_led : Led Now initials seen
  seen_led t h = let y = (old.reached t).0 h in (y.0, y.1, chain_map (hop_old g old.with_new all_mask) y.2)

  -- a first pass that adds nothing is the last
  pub reached_same : next ≡ 0 → Reached g force initials seen
  reached_same = onward_same initials seen from next targets_new followed_from seen_led

  -- else passes go on
  pub reached_now : (found : ℕ) → ((t : ℕ) → member t found ≡ (member t seen || member t next)) → {count r : ℕ}
      → ((m : ℕ) → Followed Now m found next → PassesToEnd Now m found count r) → Reached g force initials r
  reached_now = onward_now initials seen from next targets_new followed_from seen_led
