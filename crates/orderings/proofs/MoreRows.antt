-- Request C-15: a derivation over some rows is one over more rows, line by line, with every claim at the same depth. First for any system
-- (`keeps_depth`, `accepts_more`, `least_more`), then for rows (`depths_grow`, `accepts_grows`, `least_grows`, `same_depths`);
-- batches that strike nothing (`strikes_nothing`).
use Prim.Native.Nat.{ℕ, ◌≤◌}
use mathlib.Core.Path.{◌≡◌, refl, subst, ◌∙◌}
use mathlib.Core.Logic.{inl, inr, ⊎_elim, ◌↔◌}
use mathlib.Core.Option.{Option, none, some}
use mathlib.Core.List.Memᴰ
use mathlib.Core.List.{List, [], ◌∷◌, map}
use native.Mathlib.Omega.{arith}
use Rattle.lists.specs.Tests.{◌among◌}
use Rattle.rows.specs.declared.Row.{Row}
use Rattle.rows.specs.Rows.{SetOf, batch_of, AllFit}
use Rattle.rows.proofs.Batch.{batch_apart}
use Rattle.orderings.specs.Steps.{Claim, loops, mixes, set_of, Label, letter, ω, back, mix, HasRows, Struck, Possible, Walk}
use Rattle.orderings.specs.Claims.{Entrance, Exit, Piece, Says}
use Rattle.orderings.specs.Systems.{System, Allowed, Line, Derivation, Has, need_depth, walk_depth, greatest, depth, Valid, HoldsAt, AcceptedIn, Accepts, LeastAccepted}
use Rattle.orderings.specs.Timelines.{Accepting, timelines}
use Rattle.orderings.specs.MoreRows.{Grows, StrikesNothing, KeepsDepths}
use Rattle.orderings.proofs.Walks.{allowed_more}

-- ---- any system

-- what a system with the same claims and steps allows: all that S does
record Larger (S : System) : Type 1 where
  Subject : S.Claim → Type 0
  Possible : S.Step → Type 0
  Accepting : List S.Step → Type 0
  Says : (List S.Step → Type 0) → S.Claim → Type 0
  subjects : (c : S.Claim) → S.Subject c → Subject c
  steps : (t : S.Step) → S.Possible t → Possible t
  accepting : (w : List S.Step) → S.Accepting w → Accepting w
  says : (W : List S.Step → Type 0) (c : S.Claim) → S.Says W c → Says W c

module _ (S : System) (M : Larger S) where
  abbrev S' : System
  S' = record {
    Claim = S.Claim;
    Step = S.Step;
    same = S.same;
    Subject = M.Subject;
    Possible = M.Possible;
    needs = S.needs;
    IsWalk = S.IsWalk;
    Accepting = M.Accepting;
    Says = M.Says;
  }

  -- the same lines
  abbrev moved : Derivation S → Derivation S'
  moved D = map (λ (l : Line S). record { claim = l.claim; walks = l.walks }) D

  has_more : (D : Derivation S) (c : S.Claim) → Has S D c → Has S' (moved D) c
  has_more [] c m = absurd (Memᴰ.not-nil m)
  has_more (l ∷ D) c m = ⊎_elim Memᴰ.head (λ i. Memᴰ.tail (has_more D c i)) (Memᴰ.cases_cons m)

  -- depths are those of the lines
  module _ (d e : S.Claim → ℕ) (f : (c : S.Claim) → e c ≡ d c) where
    need_same : (o : Option S.Claim) → need_depth e o ≡ need_depth d o
    need_same none = refl
    need_same (some c) = f c

    walk_same : (w : List S.Step) → walk_depth S' e w ≡ walk_depth S d w
    walk_same [] = refl
    walk_same (t ∷ w) = rw (need_same (S.needs t), walk_same w) refl

    greatest_same : (ws : List (List S.Step)) → greatest S' e ws ≡ greatest S d ws
    greatest_same [] = refl
    greatest_same (w ∷ ws) = rw (walk_same w, greatest_same ws) refl

  depth_same : (D : Derivation S) (c : S.Claim) → depth S' (moved D) c ≡ depth S D c
  unfolding depth
  depth_same [] c = refl
  depth_same (l ∷ D) c = rw (greatest_same (depth S D) (depth S' (moved D)) (depth_same D) l.walks, depth_same D c) refl

  allowed_steps : (In : S.Claim → Type 0) (w : List S.Step) → Allowed S In w → Allowed S' In w
  allowed_steps In [] h = tt
  allowed_steps In (t ∷ w) h = (M.steps t h.0, h.1, allowed_steps In w h.2)

  walk_more : (D : Derivation S) (w : List S.Step) → Allowed S (Has S D) w → Allowed S' (Has S' (moved D)) w
  walk_more D w h = allowed_more S' (has_more D) w (allowed_steps (Has S D) w h)

  valid_more : (D : Derivation S) → Valid S D → Valid S' (moved D)
  valid_more [] v = tt
  valid_more (l ∷ D) v =
      (M.subjects l.claim v.0, (λ w m. let a = v.1 w m in (a.0, walk_more D w a.1)), M.says (λ w. w among l.walks) l.claim v.2, valid_more D v.3)

  -- a claim keeps its depth
  keeps_depth : (c : S.Claim) (k : ℕ) → HoldsAt S c k → HoldsAt S' c k
  keeps_depth c k h = let D = h.0 in (moved D, valid_more D h.1, has_more D c h.2, depth_same D c ∙ h.3)

  accepted_more : (D : Derivation S) (w : List S.Step) → AcceptedIn S D w → AcceptedIn S' (moved D) w
  accepted_more D w a = (M.accepting w a.0, walk_more D w a.1)

  accepts_more : Accepts S → Accepts S'
  accepts_more n = (moved n.0, valid_more n.0 n.1, (n.2.0, accepted_more n.0 n.2.0 n.2.1))

  -- an accepting walk keeps its depth, so the least is no greater
  least_more : (k k' : ℕ) → LeastAccepted S k → LeastAccepted S' k' → k' ≤ k
  least_more k k' a b = let D = a.0.0 in let w = a.0.2.0 in
      omega (arith, b.1 (moved D) (valid_more D a.0.1) w (accepted_more D w a.0.2.1), walk_same (depth S D) (depth S' (moved D)) (depth_same D) w, a.0.2.2)

-- ---- more rows

module _ (rows rows' : List Row) (up : Grows rows rows') where
  rows_grow : (p : ℕ) (l : Label) (q : ℕ) → HasRows rows p l q → HasRows rows' p l q
  rows_grow p (letter a) q h = up.0 _ h
  rows_grow p (ω P) q h = (up.0 _ h.0, h.1)
  rows_grow p (back P) q h = (up.0 _ h.0, h.1)
  rows_grow p (mix P) q h = (up.0 _ h.0, up.0 _ h.1)

  unstruck_still : (s : ℕ) → ¬ Struck rows s → ¬ Struck rows' s
  unstruck_still s n h = n (up.1 s h)

  steps_grow : (p : ℕ) (l : Label) (q : ℕ) → Possible rows p l q → Possible rows' p l q
  steps_grow p l q h = (rows_grow p l q h.0, λ s m. unstruck_still s (h.1 s m))

  sets_grow : (P : ℕ) → SetOf rows P → SetOf rows' P
  sets_grow P h = (h.0, up.0 _ h.1, h.2)

  entrances_grow : (P e : ℕ) → Entrance rows P e → Entrance rows' P e
  entrances_grow P e h = (h.0, up.0 _ h.1)

  exits_grow : (P f : ℕ) → Exit rows P f → Exit rows' P f
  exits_grow P f h = (h.0, up.0 _ h.1)

  abbrev pieces_grow : (W : Walk → Type 0) (P : ℕ) → Piece rows W P → Piece rows' W P
  pieces_grow W P k = (k.0, k.1, entrances_grow P k.0 k.2, exits_grow P k.1 k.3, k.4)

  says_grow : (W : Walk → Type 0) (c : Claim) → Says rows W c → Says rows' W c
  says_grow W (loops P) h = h
  says_grow W (mixes P) h = record {
    covered = λ s i. ⊎_elim (λ o. inl (pieces_grow W P o.0, o.1)) (λ g. inr (entrances_grow P s g.0, exits_grow P s g.1, unstruck_still s g.2)) (h.covered s i);
    stepped = pieces_grow W P h.stepped;
  }

  accepting_grows : (w : Walk) → Accepting rows w → Accepting rows' w
  accepting_grows w h =
      (h.0, h.1, (up.0 _ h.2.0, unstruck_still h.0 h.2.1), (up.0 _ h.3.0, unstruck_still h.1 h.3.1), h.4)

  abbrev more : Larger (timelines rows)
  more = record {
    Subject = (timelines rows').Subject;
    Possible = (timelines rows').Possible;
    Accepting = (timelines rows').Accepting;
    Says = (timelines rows').Says;
    subjects = λ c. sets_grow (set_of c);
    steps = λ t. steps_grow t.from t.label t.to;
    accepting = accepting_grows;
    says = says_grow;
  }

  -- a claim that holds at a depth holds there
  pub depths_grow : KeepsDepths rows rows'
  depths_grow = keeps_depth (timelines rows) more

  pub accepts_grows : Accepts (timelines rows) → Accepts (timelines rows')
  accepts_grows = accepts_more (timelines rows) more

  -- no greater round number
  pub least_grows : (k k' : ℕ) → LeastAccepted (timelines rows) k → LeastAccepted (timelines rows') k' → k' ≤ k
  least_grows = least_more (timelines rows) more

-- the same rows, in whatever order and however often, have the same depths
pub same_depths : (rows rows' : List Row) → Grows rows rows' → Grows rows' rows → (c : Claim) (k : ℕ) → HoldsAt (timelines rows) c k ↔ HoldsAt (timelines rows') c k
same_depths rows rows' up down c k = (depths_grow rows rows' up c k, depths_grow rows' rows down c k)

-- a batch of rows of which none strikes
pub strikes_nothing : (rows : List Row) → AllFit rows → ((s : ℕ) → ¬ Struck rows s) → StrikesNothing (batch_of rows)
strikes_nothing rows f n rows' g e s = subst (λ x. ¬ Struck x s) (batch_apart rows rows' f g e) (n s)
