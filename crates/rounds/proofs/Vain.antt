-- A set with a state from which no letter leads on inside it, as the test sees it (`idle_by`), neither loops nor mixes while no claim is in force (`idle_loops_not`, `idle_mixes_not`);
-- where every set is so, the first round opens nothing, and the automaton is settled (`vain_end`).
use Prim.Native.Nat.{ℕ, ◌≤◌}
use mathlib.Core.Path.{◌≡◌, refl, sym, subst}
use mathlib.Core.Bool.{Bool, true, false}
use mathlib.Core.Logic.{inr, ⊎_elim}
use mathlib.Core.List.{List, ◌∷◌}
use lib.ListN.{get_or, replicate}
use native.Mathlib.Omega.{arith}
use Rattle.lists.specs.Tests.{Decides}
use Rattle.lists.proofs.Deciding.{no_decides}
use Rattle.masks.specs.Mask.{◌∈◌, ◌⊆◌}
use Rattle.masks.proofs.Member.{member_none, in_none, intersection_left}
use Rattle.rows.specs.declared.Row.{Row}
use Rattle.machine.specs.Machine.{open_with, judged}
use Rattle.machine.specs.Calls.{close, round, run}
use Rattle.search.specs.declared.Claims.{Claims}
use Rattle.search.specs.Graph.{Graph}
use Rattle.search.specs.Hops.{Hop, InnerClaims, Joined, Covered, no_claims}
use Rattle.search.specs.Promises.{AcceptsRight}
use Rattle.search.proofs.Chains.{chain_first}
use Rattle.candidates.specs.Promises.{LoopsAt, MixesAt, OpensOn}
use Rattle.candidates.proofs.Holding.{opens_below}
use Rattle.rounds.specs.Arrays.{Notes}
use Rattle.rounds.specs.Promises.{Given, Mirrors, Idle, AllIdle}
use Rattle.rounds.proofs.Settled.{stage_start, stage_more, stage_end}

-- a state of a set that is no exit of it
pub record Lone (g : Graph) (i s : ℕ) : Type 0 where
  pub has : s ∈ get_or g.sets i 0
  pub no_exit : ¬ (s ∈ get_or g.rights i 0)

-- which is seen to lead by no letter into the set
pub idle_by : (g : Graph) (i s p letters : ℕ) (b : Bool) → Lone g i s → p ≡ get_or g.sets i 0 → letters ≡ get_or g.letters s 0
    → Decides b ((t : ℕ) × (t ∈ letters) × (t ∈ p)) → b ≡ false → Idle g i
idle_by g i s p letters b lone e f tells none = record {
  state = s;
  has = lone.has;
  no_exit = lone.no_exit;
  unleading = λ t h k. no_decides (rw none at tells) (t, subst (λ (x : ℕ). t ∈ x) (sym f) h, subst (λ (x : ℕ). t ∈ x) (sym e) k);
}

module _ {g : Graph} {i : ℕ} (idle : Idle g i) {inner : Claims} (is_inner : InnerClaims g no_claims (get_or g.sets i 0) inner) where
  abbrev P : ℕ
  P = get_or g.sets i 0

  abbrev q : ℕ
  q = idle.state

  -- no step leads from its state: by a letter it would leave the set, and no claim is in force
  no_hop : (b : ℕ) → ¬ Hop g inner P q b
  no_hop b h = ⊎_elim (λ l. idle.unleading b l h.end)
      (λ c. ⊎_elim
      (λ x. ⊎_elim (λ y. in_none y.0 ((is_inner.loops_are y.0).0 y.1).0) (λ y. in_none y.0 ((is_inner.loops_are y.0).0 y.1).0) x)
      (λ y. in_none y.0 ((is_inner.mixes_are y.0).0 y.1).0) c)
      h.kind

  idle_unjoined : ¬ Joined (Hop g inner P) P
  idle_unjoined j = let e = chain_first (j q q idle.has idle.has) in no_hop e.0 e.1

  -- the states n are exits
  idle_uncovered : (m n : ℕ) → n ⊆ get_or g.rights i 0 → ¬ Covered (Hop g inner P) m n P
  idle_uncovered m n exits c = ⊎_elim
      (λ o. ⊎_elim (λ k. let e = chain_first k.1 in no_hop e.0 e.1)
      (λ k. ⊎_elim (λ same. idle.no_exit (exits q (subst (λ (x : ℕ). x ∈ n) (sym same) o.3))) (λ d. let e = chain_first d in no_hop e.0 e.1) k.1) o.4)
      (λ k. idle.no_exit (exits q k.1)) (c.states q idle.has)

module _ {g : Graph} {i : ℕ} (idle : Idle g i) where
  pub idle_loops_not : ¬ LoopsAt g no_claims i
  idle_loops_not x = idle_unjoined idle x.is_inner x.joined

  pub idle_mixes_not : ¬ MixesAt g no_claims i
  idle_mixes_not x = idle_uncovered idle x.is_inner x.entrances x.exits (intersection_left (get_or g.rights i 0) (get_or g.sets i 0) x.exits x.are_exits) x.covered

module _ {g : Graph} {n : ℕ} (idle : AllIdle g n) where
  -- the first round opens nothing
  none_open : OpensOn g no_claims n no_claims
  none_open = record {
    loop_iff = λ i. ((λ h. absurd (in_none i h)), λ x. absurd (idle_loops_not (idle i x.0) x.1));
    mix_iff = λ i. ((λ h. absurd (in_none i h)), λ x. absurd (idle_mixes_not (idle i x.0) x.1));
  }

  none_noted : Notes (replicate 64 0) 0 1 (replicate 64 0)
  none_noted = record { length_is = refl; rounds_are = λ e i l. rw (member_none i) refl }

  -- settled after one round
  pub vain_end : (rows : List Row) {initials finals : ℕ} → Given rows g initials finals n → AcceptsRight g no_claims initials finals false → (most : ℕ) → 1 ≤ most
      → Mirrors (run (open_with rows) (close ∷ replicate most round)) (replicate 64 0) (replicate 64 0) (judged false true) 1
  vain_end rows given tested most some = stage_end
      (stage_more rows given {new = no_claims} {all = no_claims} (stage_start rows given false tested) refl (record {
        opens = opens_below none_open;
        with_new = record { loops_are = λ t. rw (member_none t) refl; mixes_are = λ t. rw (member_none t) refl };
        tested = tested;
        vain_iff = record { to = λ e t. (in_none t, in_none t); of = λ h. refl };
        loop_noted = none_noted;
        mix_noted = none_noted;
      })) most some (inr (λ e. let z : ◌≡◌ {A = ℕ} 0 1 = cc in absurd (omega arith)))
