-- The states of an automaton: which stands where as states are added (`at_old`, `at_new`, `at_either`), that edges lead from state to state
-- (`edge_inside`), and that marks and edges can be decided (`dec_marked`, `dec_edge`).
use Prim.Native.Nat.{ℕ, suc, ◌<◌}
use mathlib.Core.Path.{◌≡◌, refl, sym, ap, subst, ◌∙◌}
use mathlib.Core.Bool.{Bool, true, false}
use mathlib.Core.Logic.{◌⊎◌, inl, inr, ⊎_elim}
use mathlib.Core.List.Memᴰ
use mathlib.Core.List.{List, [], ◌∷◌, ◌++◌, append_assoc, head-eq_of_cons-eq, tail-eq_of_cons-eq}
use lib.ListN.{length, length-append, get_or, take, drop, length-take}
use lib.Seq.{get_or_at, split_at}
use native.Mathlib.Omega.{arith}
use native.Mathlib.Decide.{dec_lt}
use Rattle.lists.specs.Tests.{◌among◌}
use Rattle.lists.proofs.Deciding.{eqb_decides, test_decides, dec_decides, has_decides}
use Rattle.hoa_files.specs.Automata.{BuchiState, Buchi, Readable}
use Rattle.hoa_files.specs.Tables.{IsState, Edge, IsMarked}

-- a state, marked or not, with edges; one with neither
abbrev pub state_with : Bool → List ℕ → BuchiState
state_with m qs = record { marked = m; edges = qs }

abbrev pub bare : BuchiState
bare = state_with false []

-- the automaton of some states, with any start
abbrev pub with_states : List BuchiState → Buchi
with_states sts = record { start = 0; states = sts }

-- ---- which state stands where, as states are added

-- there is none among none
pub nothing_at : (p : ℕ) (s : BuchiState) → ¬ IsState (with_states []) p s
nothing_at p s ([], (b, e, k)) = let z : ◌≡◌ {A = ℕ} 0 (suc (length b)) = ap length e in absurd (omega arith)
nothing_at p s (y ∷ a, (b, e, k)) = let z : ◌≡◌ {A = ℕ} 0 (suc (length (a ++ (s ∷ b)))) = ap length e in absurd (omega arith)

-- those before stay where they are
pub at_old : (l m : List BuchiState) (p : ℕ) (s : BuchiState) → IsState (with_states l) p s → IsState (with_states (l ++ m)) p s
at_old l m p s (a, (b, e, k)) = (a, (b ++ m, ap (λ (x : List BuchiState). x ++ m) e ∙ append_assoc a (s ∷ b) m, k))

-- the last one stands behind them
pub at_new : (l : List BuchiState) (s : BuchiState) (p : ℕ) → p ≡ length l → IsState (with_states (l ++ (s ∷ []))) p s
at_new l s p e = (l, ([], refl, e))

-- and there is no other
pub at_either : (l : List BuchiState) (x : BuchiState) (p : ℕ) (s : BuchiState) → IsState (with_states (l ++ (x ∷ []))) p s → IsState (with_states l) p s ⊎ ((p ≡ length l) × (s ≡ x))
at_either [] x p s ([], (b, e, k)) = inr (k, sym (head-eq_of_cons-eq e))
at_either [] x p s (y ∷ a, (b, e, k)) = absurd (nothing_at (length a) s (a, (b, tail-eq_of_cons-eq e, refl)))
at_either (y ∷ l) x p s ([], (b, e, k)) = inl ([], (l, ap (λ (z : BuchiState). z ∷ l) (head-eq_of_cons-eq e), k))
at_either (y ∷ l) x p s (z ∷ a, (b, e, k)) = ⊎_elim old new (at_either l x (length a) s (a, (b, tail-eq_of_cons-eq e, refl)))
  where
    old : IsState (with_states l) (length a) s → IsState (with_states (y ∷ l)) p s ⊎ ((p ≡ length (y ∷ l)) × (s ≡ x))
    old (c, (d, f, g)) = inl (y ∷ c, (d, ap (λ (m : List BuchiState). y ∷ m) f, k ∙ ap suc g))

    new : (length a ≡ length l) × (s ≡ x) → IsState (with_states (y ∷ l)) p s ⊎ ((p ≡ length (y ∷ l)) × (s ≡ x))
    new (g, f) = inr (k ∙ ap suc g, f)

-- ---- within the automaton

-- a state has a place below their count
pub state_inside : (h : Buchi) (p : ℕ) (s : BuchiState) → IsState h p s → (p < length h.states) × s among h.states
state_inside h p s (earlier, (later, e, n)) = (
  omega (arith, ap length e ∙ length-append earlier (s ∷ later), n),
  subst (λ (l : List BuchiState). s among l) (sym e) (Memᴰ.append_right earlier (Memᴰ.head refl)),
)

-- an edge leads from a state to a state
pub edge_inside : (h : Buchi) → Readable h → (p q : ℕ) → Edge h p q → (p < length h.states) × (q < length h.states)
edge_inside h ok p q (s, i, m) = let x = state_inside h p s i in (x.0, ok.edges_inside s q x.1 m)

-- ---- what is true of a state can be decided

module _ (h : Buchi) where
  abbrev state_of : ℕ → BuchiState
  state_of p = get_or h.states p bare

  state_at : (p : ℕ) → p < length h.states → IsState h p (state_of p)
  state_at p l = (take p h.states, (drop (suc p) h.states, split_at h.states p bare l, omega (arith, length-take p h.states)))

  state_is : (p : ℕ) (s : BuchiState) → IsState h p s → state_of p ≡ s
  state_is p s (earlier, (later, e, n)) = rw e (get_or_at earlier s later bare p (sym n))

  -- of the state at a place, if there is one
  dec_state : (Q : BuchiState → Type 0) → ((s : BuchiState) → Dec (Q s)) → (p : ℕ) → Dec ((s : BuchiState) × IsState h p s × Q s)
  dec_state Q d p = by (dec_lt p (length h.states)) (d (state_of p))
    where
      by : Dec (p < length h.states) → Dec (Q (state_of p)) → Dec ((s : BuchiState) × IsState h p s × Q s)
      by (yes l) (yes q) = yes (state_of p, state_at p l, q)
      by (yes l) (no q) = no (λ x. q (subst Q (sym (state_is p x.0 x.1)) x.2))
      by (no l) d = no (λ x. l (state_inside h p x.0 x.1).0)

  pub dec_marked : (p : ℕ) → Dec (IsMarked h p)
  dec_marked = dec_state (λ s. s.marked ≡ true) (λ s. dec_decides (test_decides s.marked))

  pub dec_edge : (p q : ℕ) → Dec (Edge h p q)
  dec_edge p q = dec_state (λ s. q among s.edges) (λ s. dec_decides (has_decides eqb_decides q s.edges)) p
