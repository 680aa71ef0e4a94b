-- Steps as the masks have them are the steps of the rows with the claims in force, and chains of them are walks.
use Prim.Native.Nat.{ℕ, ◌<◌}
use mathlib.Core.Path.{◌≡◌, refl, sym, subst}
use mathlib.Core.Logic.{inl, inr, ⊎_elim, ◌↔◌}
use mathlib.Core.List.Memᴰ
use mathlib.Core.List.{List, [], ◌∷◌}
use lib.ListN.{get_or}
use Rattle.lists.specs.Tests.{◌among◌}
use Rattle.masks.specs.Mask.{◌∈◌, ◌⊆◌}
use Rattle.rows.specs.declared.Row.{Row}
use Rattle.rows.specs.declared.Row.TheVariants.{LeftLimit, RightLimit}
use Rattle.rows.specs.Rows.{SetOf}
use Rattle.rows.proofs.Sets.{set_place}
use Rattle.orderings.specs.Steps.{Claim, loops, mixes, letter, ω, back, mix, members, Possible}
use Rattle.orderings.proofs.Timelines.{members_iff}
use Rattle.search.specs.declared.Claims.{Claims}
use Rattle.search.specs.Graph.{Graph}
use Rattle.search.specs.Masked.{LeftRow, RightRow, Masked, Forced, StepInside}
use Rattle.search.specs.Hops.{Hop, InnerClaims}

-- a mix step exists where its two rows stand and no struck state is in the way of either
pub mix_rows : (rows : List Row) (p P q : ℕ) → (RightRow rows p P × LeftRow rows P q) ↔ Possible rows p (mix P) q
mix_rows rows p P q = (
  (λ (r, l). ((r.0, l.0), λ s m. ⊎_elim (λ e. l.1 s (Memᴰ.head e)) (r.1 s) (Memᴰ.cases_cons m))),
  λ (h, u). (
    (h.0, λ s m. u s (Memᴰ.tail m)),
    (h.1, λ s m. ⊎_elim (λ e. u s (Memᴰ.head e)) (λ j. u s (Memᴰ.tail (Memᴰ.tail j))) (Memᴰ.cases_cons m)),
  ),
)

-- the states of a set inside p, with others in p
pub set_in : (p Q : ℕ) → Q ⊆ p → (s : ℕ) → s among members Q → s ∈ p
set_in p Q h s m = h s ((members_iff Q s).0 m)

pub and_in : (p x : ℕ) (l : List ℕ) → x ∈ p → ((s : ℕ) → s among l → s ∈ p) → (s : ℕ) → s among (x ∷ l) → s ∈ p
and_in p x l h f s m = ⊎_elim (λ e. subst (λ (y : ℕ). y ∈ p) (sym e) h) (f s) (Memᴰ.cases_cons m)

module _ {rows : List Row} {g : Graph} {n : ℕ} (is : Masked rows g n) where
  -- a set of the rows has a place
  place : (P : ℕ) → SetOf rows P → (i : ℕ) × (i < n) × (P ≡ get_or g.sets i 0)
  place = set_place rows g.sets n is.sets_are

  left_place : (P q : ℕ) → LeftLimit P q among rows → (i : ℕ) × (i < n) × (P ≡ get_or g.sets i 0)
  left_place P q m = place P (LeftLimit P q, m, Memᴰ.head refl)

  right_place : (P q : ℕ) → RightLimit q P among rows → (i : ℕ) × (i < n) × (P ≡ get_or g.sets i 0)
  right_place P q m = place P (RightLimit q P, m, Memᴰ.head refl)

  module _ {In : Claim → Type 0} {force : Claims} (forced : Forced In g n force) (p : ℕ) {inner : Claims} (is_inner : InnerClaims g force p inner) where
    abbrev HopIn : ℕ → ℕ → Type 0
    HopIn a b = Hop g inner p a b

    pub hop_step : (a b : ℕ) → HopIn a b → StepInside rows In p a b
    hop_step a b h = ⊎_elim
        (λ e. let x = (is.letter_iff a b).0 e in
        (letter x.0, x.1, tt, and_in p a (b ∷ []) h.start (and_in p b [] h.end (λ s m. absurd (Memᴰ.not-nil m)))))
        (⊎_elim
        (⊎_elim
        (λ e. let i = e.0 in let j = (is_inner.loops_are i).0 e.1 in let f = (forced.loop_iff i).0 j.0 in
        let r = (is.left_iff i b f.0).0 e.3 in
        (ω (get_or g.sets i 0), ((r.0, e.2), r.1), f.1, and_in p b _ h.end (set_in p _ j.1)))
        (λ e. let i = e.0 in let j = (is_inner.loops_are i).0 e.1 in let f = (forced.loop_iff i).0 j.0 in
        let r = (is.right_iff i a f.0).0 e.2 in
        (back (get_or g.sets i 0), ((r.0, e.3), r.1), f.1, and_in p a _ h.start (set_in p _ j.1))))
        (λ e. let i = e.0 in let j = (is_inner.mixes_are i).0 e.1 in let f = (forced.mix_iff i).0 j.0 in (
          mix (get_or g.sets i 0),
          (mix_rows rows a _ b).0 ((is.right_iff i a f.0).0 e.2, (is.left_iff i b f.0).0 e.3),
          f.1,
          and_in p b _ h.end (and_in p a _ h.start (set_in p _ j.1)),
        )))
        h.kind

    -- a claim in force of a set inside p
    loop_inner : (Q i : ℕ) → i < n → Q ≡ get_or g.sets i 0 → In (loops Q) → Q ⊆ p → i ∈ inner.loops
    loop_inner Q i l e f h = (is_inner.loops_are i).1 ((forced.loop_iff i).1 (l, subst (λ (x : ℕ). In (loops x)) e f), subst (λ (x : ℕ). x ⊆ p) e h)

    mix_inner : (Q i : ℕ) → i < n → Q ≡ get_or g.sets i 0 → In (mixes Q) → Q ⊆ p → i ∈ inner.mixes
    mix_inner Q i l e f h = (is_inner.mixes_are i).1 ((forced.mix_iff i).1 (l, subst (λ (x : ℕ). In (mixes x)) e f), subst (λ (x : ℕ). x ⊆ p) e h)

    in_left : (Q q i : ℕ) → i < n → Q ≡ get_or g.sets i 0 → LeftRow rows Q q → q ∈ get_or g.lefts i 0
    in_left Q q i l e m = (is.left_iff i q l).1 (subst (λ (x : ℕ). LeftRow rows x q) e m)

    in_right : (Q q i : ℕ) → i < n → Q ≡ get_or g.sets i 0 → RightRow rows q Q → q ∈ get_or g.rights i 0
    in_right Q q i l e m = (is.right_iff i q l).1 (subst (λ (x : ℕ). RightRow rows q x) e m)

    in_set : (Q s i : ℕ) → Q ≡ get_or g.sets i 0 → s ∈ Q → s ∈ get_or g.sets i 0
    in_set Q s i e h = subst (λ (x : ℕ). s ∈ x) e h

    pub step_hop : (a b : ℕ) → StepInside rows In p a b → HopIn a b
    step_hop a b (letter x, can, f, c) = record {
      start = c a (Memᴰ.head refl);
      end = c b (Memᴰ.tail (Memᴰ.head refl));
      kind = inl ((is.letter_iff a b).1 (x, can));
    }
    step_hop a b (ω Q, can, f, c) =
        let i = left_place Q b can.0.0 in
        let h : Q ⊆ p = λ s m. c s (Memᴰ.tail ((members_iff Q s).1 m)) in
        record {
          start = h a can.0.1;
          end = c b (Memᴰ.head refl);
          kind = inr (inl (inl (i.0, loop_inner Q _ i.1 i.2 f h, in_set Q a _ i.2 can.0.1, in_left Q b _ i.1 i.2 (can.0.0, can.1))));
        }
    step_hop a b (back Q, can, f, c) =
        let i = right_place Q a can.0.0 in
        let h : Q ⊆ p = λ s m. c s (Memᴰ.tail ((members_iff Q s).1 m)) in
        record {
          start = c a (Memᴰ.head refl);
          end = h b can.0.1;
          kind = inr (inl (inr (i.0, loop_inner Q _ i.1 i.2 f h, in_right Q a _ i.1 i.2 (can.0.0, can.1), in_set Q b _ i.2 can.0.1)));
        }
    step_hop a b (mix Q, can, f, c) =
        let i = right_place Q a can.0.0 in
        let h : Q ⊆ p = λ s m. c s (Memᴰ.tail (Memᴰ.tail ((members_iff Q s).1 m))) in
        let both = (mix_rows rows a Q b).1 can in
        record {
          start = c a (Memᴰ.tail (Memᴰ.head refl));
          end = c b (Memᴰ.head refl);
          kind = inr (inr (i.0, mix_inner Q _ i.1 i.2 f h, in_right Q a _ i.1 i.2 both.0, in_left Q b _ i.1 i.2 both.1));
        }
