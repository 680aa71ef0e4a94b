-- A loop that notes how long the texts of the claims are that a round opened, place by place: `note_start`, `note_more`, `note_past`, `note_end`; and
-- one round after another: `known_none`, `known_all`.
use Rattle.std.specs.Prelude.{Option, None}
use Prim.Native.Nat.{ℕ, ◌+◌, ◌≤◌, ◌<◌}
use mathlib.Core.Path.{◌≡◌, ap, sym, ◌∙◌, subst}
use mathlib.Core.Logic.{◌⊎◌, inl, inr, ⊎_elim, ◌≢◌}
use mathlib.Core.List.{List}
use native.Mathlib.Nat.{eq-or-lt_of_le}
use native.Mathlib.Omega.{arith}
use lib.ListN.{length, get_or, set}
use lib.Seq.{get_or-set_same, get_or-set_other}
use Rattle.lists.specs.Tests.{◌among◌}
use Rattle.masks.specs.Mask.{◌∈◌}
use Rattle.orderings.specs.Steps.{loops, mixes}
use Rattle.machine.specs.Machine.{Machine, open_claims}
use Rattle.machine.specs.Expression.{nearest, tour, earlier}
use Rattle.machine.specs.WellFormed.{WellFormed}
use Rattle.machine.proofs.Turning.{tour_length}
use Rattle.search.specs.Graph.{Graph}
use Rattle.tours.specs.declared.frames.Shape.{Shape}
use Rattle.tours.specs.declared.frames.Shape.TheVariants.{Tour, Pieces}
use Rattle.tours.specs.declared.frames.Frame.{Frame}
use Rattle.tours.specs.Frames.{Held, About}
use Rattle.expression.specs.Texts.{shape_text}
use Rattle.expression.specs.Frames.{Noted, round_for, Frames, AtPlace}
use Rattle.expression.specs.Lengths.{Measured, Known, MeasuresPlace, NotesRound}
use Rattle.expression.proofs.Framing.{loop_round, mix_round, loop_below, mix_below, round_done}
use Rattle.expression.proofs.Texts.{writer, tour_text}

-- the text of a tour is as long from any state of the set
tours_alike : (m : Machine) → WellFormed m → (P q a : ℕ) → loops P among open_claims m → q ∈ P → a ∈ P → length (shape_text m (Tour q) P) ≡ length (shape_text m (Tour a) P)
unfolding tour
tours_alike m w P q a o h j = ap (length {A = ℕ}) (tour_text m w P q h o)
    ∙ tour_length (writer m) (nearest m.rows (earlier m.openings (loops P)) P) P q a h j ∙ sym (ap (length {A = ℕ}) (tour_text m w P a j o))

-- ---- one round

-- the texts of the claims opened before a round are known, and of those opened in it at places below the slot
pub record KnownBelow (m : Machine) (g : Graph) (k : ℕ) (opened : List ℕ) (round most slot : ℕ) (bytes : List (Option ℕ)) : Type 0 where
  pub old : Known m g k opened round most bytes
  pub tours : (i q : ℕ) → i < k → i < slot → get_or opened i 0 ≡ round → q ∈ get_or g.sets i 0
      → Measured most (length (shape_text m (Tour q) (get_or g.sets i 0))) (get_or bytes i None)
  pub pieces : (i : ℕ) → i < k → 64 + i < slot → get_or opened (64 + i) 0 ≡ round
      → Measured most (length (shape_text m Pieces (get_or g.sets i 0))) (get_or bytes (64 + i) None)

at_or_below : {i slot : ℕ} → i < slot + 1 → (i ≡ slot) ⊎ (i < slot)
at_or_below {i} {slot} h = let l : i ≤ slot = omega arith in eq-or-lt_of_le l

module _ (words : List ℕ) (n : ℕ) (b : Graph) (k : ℕ) (opened : List ℕ) (round most : ℕ) where
  -- of every machine that the arrays hold, where those opened before the round were known
  abbrev pub NotesBelow : List (Option ℕ) → ℕ → List (Option ℕ) → Type 0
  NotesBelow old slot new = (m : Machine) (g : Graph) → Held m g words n b k → Noted m opened → Known m g k opened round most old → KnownBelow m g k opened round most slot new

  pub note_start : (old : List (Option ℕ)) → NotesBelow old 0 old
  note_start old m g held noted known = record { old = known; tours = λ i q h l. absurd (omega (arith, l)); pieces = λ i h l. absurd (omega (arith, l)) }

  -- nothing opened in this round at the slot
  pub note_past : (old : List (Option ℕ)) (slot : ℕ) (new : List (Option ℕ)) → NotesBelow old slot new → ¬ (get_or opened slot 0 ≡ round) → NotesBelow old (slot + 1) new
  note_past old slot new notes other m g held noted known = let s = notes m g held noted known in record {
    old = s.old;
    tours = λ i q h l e. ⊎_elim (λ c. absurd (other (ap (λ j. get_or opened j 0) (sym c) ∙ e))) (λ c. s.tours i q h c e) (at_or_below l);
    pieces = λ i h l e. ⊎_elim (λ c. absurd (other (ap (λ j. get_or opened j 0) (sym c) ∙ e))) (λ c. s.pieces i h c e) (at_or_below l);
  }

  -- the length of the text of the claim at the slot
  module _ (old : List (Option ℕ)) (slot : ℕ) (bytes : List (Option ℕ)) (v : Option ℕ) (notes : NotesBelow old slot bytes) (size : length bytes ≡ 128) (low : slot < 128) (first : 0 < round)
      (here : get_or opened slot 0 ≡ round) (measures : MeasuresPlace words n b k opened bytes slot most v) where
    abbrev new : List (Option ℕ)
    new = set bytes slot v

    module _ (m : Machine) (g : Graph) (held : Held m g words n b k) (noted : Noted m opened) (known : Known m g k opened round most old) where
      abbrev s : KnownBelow m g k opened round most slot bytes
      s = notes m g held noted known

      abbrev some : 0 < get_or opened slot 0
      some = omega (arith, here, first)

      abbrev f : Frame
      f = (measures m g held noted some).0

      abbrev placed : Frames m g k f × AtPlace g slot f
      placed = let x = measures m g held noted some in (x.1, x.2)

      -- the frame's round is this one
      rounded : f.round ≡ round
      rounded = placed.0.rounded ∙ by placed.1
        where
          at : (shape : Shape) (P : ℕ) → f.shape ≡ shape → f.set ≡ P → round_for m f.shape f.set ≡ round_for m shape P
          at shape P e c = ap (λ (x : Shape). round_for m x f.set) e ∙ ap (round_for m shape) c

          by : AtPlace g slot f → round_for m f.shape f.set ≡ round
          by (inl p) = at (Tour p.0) _ p.2 p.3 ∙ (sym (loop_round held noted slot (loop_below held noted slot p.1 some)) ∙ here)
          by (inr p) = let o = subst (λ j. 0 < get_or opened j 0) p.1 some in
              at Pieces _ p.2 p.3 ∙ (sym (mix_round held noted p.0 (mix_below held noted p.0 (omega (arith, p.1, low)) o)) ∙ (ap (λ j. get_or opened j 0) (sym p.1) ∙ here))

      -- the text that was counted
      counted : (shape : Shape) (P : ℕ) → f.shape ≡ shape → f.set ≡ P → Measured most (length (shape_text m shape P)) v
      counted shape P e c = subst (λ (x : Shape). Measured most (length (shape_text m x P)) v) e (subst (λ Q. Measured most (length (shape_text m f.shape Q)) v) c
          ((measures m g held noted some).3 (subst (λ j. Known m g k opened j most bytes) (sym rounded) s.old)))

      now_there : get_or new slot None ≡ v
      now_there = get_or-set_same bytes slot v None (omega (arith, size, low))

      -- the others stay
      stays : (j c : ℕ) → j ≢ slot → Measured most c (get_or bytes j None) → Measured most c (get_or new j None)
      stays j c n h = subst (Measured most c) (sym (get_or-set_other bytes slot j v None n)) h

      tour_now : (q : ℕ) → slot < k → q ∈ get_or g.sets slot 0 → Measured most (length (shape_text m (Tour q) (get_or g.sets slot 0))) (get_or new slot None)
      tour_now q h j = subst (Measured most _) (sym now_there) (by placed.1)
        where
          P : ℕ
          P = get_or g.sets slot 0

          by : AtPlace g slot f → Measured most (length (shape_text m (Tour q) P)) v
          by (inl p) =
              let a = subst (λ Q. About m (Tour p.0) Q f.starts f.ends) p.3 (subst (λ (x : Shape). About m x f.set f.starts f.ends) p.2 placed.0.framed.about) in
              subst (λ c. Measured most c v) (tours_alike m held.formed P p.0 q a.1 a.0 j) (counted (Tour p.0) P p.2 p.3)
          by (inr p) = absurd (omega (arith, p.1, h, held.masked.few))

      pieces_now : (i : ℕ) → 64 + i ≡ slot → Measured most (length (shape_text m Pieces (get_or g.sets i 0))) (get_or new slot None)
      pieces_now i e = subst (Measured most _) (sym now_there) (by placed.1)
        where
          by : AtPlace g slot f → Measured most (length (shape_text m Pieces (get_or g.sets i 0))) v
          by (inl p) = absurd (omega (arith, p.1, e))
          by (inr p) = let c : p.0 ≡ i = omega (arith, p.1, e) in counted Pieces _ p.2 (p.3 ∙ ap (λ j. get_or g.sets j 0) c)

      apart : (j : ℕ) → get_or opened j 0 < round → j ≢ slot
      apart j l e = omega (arith, l, ap (λ x. get_or opened x 0) e, here)

      noted_more : KnownBelow m g k opened round most (slot + 1) new
      noted_more = record {
        old = record {
          tours = λ i q h o l j. stays i _ (apart i l) (s.old.tours i q h o l j);
          pieces = λ i h o l. stays (64 + i) _ (apart (64 + i) l) (s.old.pieces i h o l);
        };
        tours = λ i q h l e j. ⊎_elim
            (λ c. subst (λ x. Measured most (length (shape_text m (Tour q) (get_or g.sets x 0))) (get_or new x None)) (sym c) (tour_now q (omega (arith, c, h)) (subst (λ x. q ∈ get_or g.sets x 0) c j)))
            (λ c. stays i _ (λ d. omega (arith, c, d)) (s.tours i q h c e j)) (at_or_below l);
        pieces = λ i h l e. ⊎_elim (λ c. subst (λ x. Measured most (length (shape_text m Pieces (get_or g.sets i 0))) (get_or new x None)) (sym c) (pieces_now i c))
            (λ c. stays (64 + i) _ (λ d. omega (arith, c, d)) (s.pieces i h c e)) (at_or_below l);
      }

    pub note_more : NotesBelow old (slot + 1) new
    note_more = noted_more

  pub note_end : (old new : List (Option ℕ)) → NotesBelow old 128 new → NotesRound words n b k opened round most old new
  note_end old new notes m g held noted known = let s = notes m g held noted known in record {
    tours = λ i q h o l j. ⊎_elim (λ e. s.tours i q h (omega (arith, h, held.masked.few)) e j) (λ c. s.old.tours i q h o c j) (at_or_below l);
    pieces = λ i h o l. ⊎_elim (λ e. s.pieces i h (omega (arith, h, held.masked.few)) e) (λ c. s.old.pieces i h o c) (at_or_below l);
  }

-- ---- all rounds

-- before the first round nothing opened
pub known_none : (m : Machine) (g : Graph) (k : ℕ) (opened : List ℕ) (most : ℕ) (bytes : List (Option ℕ)) → Known m g k opened 1 most bytes
known_none m g k opened most bytes = record { tours = λ i q h o l. absurd (omega (arith, o, l)); pieces = λ i h o l. absurd (omega (arith, o, l)) }

-- and after the last one all is known
pub known_all : {m : Machine} {g : Graph} {words : List ℕ} {n : ℕ} {b : Graph} {k : ℕ} → Held m g words n b k → {opened : List ℕ} → Noted m opened
    → (most : ℕ) (bytes : List (Option ℕ)) → Known m g k opened (m.rounds + 1) most bytes → Known m g k opened 130 most bytes
known_all {g} held noted most bytes known = record {
  tours = λ i q h o l. known.tours i q h o (omega (arith, loop_round held noted i h, round_done held noted (loops (get_or g.sets i 0))));
  pieces = λ i h o l. known.pieces i h o (omega (arith, mix_round held noted i h, round_done held noted (mixes (get_or g.sets i 0))));
}
