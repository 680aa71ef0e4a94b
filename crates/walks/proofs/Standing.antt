-- Arrays that stand for rows and claims: their order (`sets_rise_in`), keys as words of letter rows (`keyed_letters`), and the steps
-- inside a set that they have (`way_can`, `can_way`, `can_ahead`, `ahead_can`).
use Prim.Native.Nat.{ℕ, ◌<◌}
use mathlib.Core.Path.{◌≡◌, refl, ap, sym, subst, ◌∙◌}
use mathlib.Core.Logic.{⊎_elim, ◌↔◌}
use mathlib.Core.List.Memᴰ
use mathlib.Core.List.{List, [], ◌∷◌, map}
use native.Mathlib.Omega.{arith}
use lib.ListN.{length, get_or, length-map}
use Rattle.lists.specs.Tests.{◌among◌}
use Rattle.lists.proofs.Deciding.{map_in}
use Rattle.lists.proofs.Places.{get_or_among, get_or_map, place_of}
use Rattle.masks.specs.Mask.{◌∈◌, ◌⊆◌}
use Rattle.sorted_keys.specs.declared.Key.{Key}
use Rattle.sorted_keys.specs.Keys.{key_at}
use Rattle.rows.specs.declared.Row.{Row}
use Rattle.rows.specs.declared.Row.TheVariants.{Successor, LeftLimit, RightLimit}
use Rattle.rows.specs.Rows.{SetOf, standing_sets}
use Rattle.rows.specs.Keys.{high}
use Rattle.rows.proofs.Keys.{letter_low, letter_back}
use Rattle.rows.proofs.Sets.{sets_rise, set_place}
use Rattle.orderings.specs.Steps.{Claim, loops, mixes, Label, letter, ω, back, mix, Struck, Unstruck, Possible, content, needs}
use Rattle.orderings.specs.Systems.{InForce}
use Rattle.orderings.proofs.Timelines.{members_iff}
use Rattle.machine.specs.WellFormed.{Table}
use Rattle.search.specs.declared.Claims.{Claims}
use Rattle.search.specs.Graph.{Graph, TurnedGraph}
use Rattle.search.specs.Masked.{LeftRow, RightRow}
use Rattle.search.specs.Hops.{InnerClaims}
use Rattle.search.specs.Promises.{Stands}
use Rattle.search.proofs.Hops.{hop_back, hop_turn}
use Rattle.search.proofs.Steps.{mix_rows, set_in, and_in, hop_step, step_hop}
use Rattle.row_table.specs.Arrays.{Keyed}
use Rattle.row_table.specs.Letters.{LetterAt, LettersIn}
use Rattle.row_table.proofs.Keys.{none, held_key, row_there}
use Rattle.walks.specs.Layers.{Ahead}
use Rattle.walks.specs.Choices.{Way, SetsRise}

-- a step of the rows inside p, with the claims in force
abbrev pub Can : List Row → List Claim → ℕ → ℕ → Label → ℕ → Type 0
Can rows claims p a l t = Possible rows a l t × InForce (λ c. c among claims) (needs l) × ((s : ℕ) → s among content a l t → s ∈ p)

-- a state that such a step may have
abbrev pub Free : List Row → ℕ → ℕ → Type 0
Free rows p s = (s ∈ p) × ¬ Struck rows s

both_unstruck : (rows : List Row) (a t : ℕ) → ¬ Struck rows a → ¬ Struck rows t → Unstruck rows (a ∷ t ∷ [])
both_unstruck rows a t f g s m = ⊎_elim (λ e. subst (λ (x : ℕ). ¬ Struck rows x) (sym e) f)
    (λ k. subst (λ (x : ℕ). ¬ Struck rows x) (sym (Memᴰ.eq_of_singleton k)) g) (Memᴰ.cases_cons m)

-- the first words of the keys of rows are words of their letter rows
pub keyed_letters : {rows : List Row} {keys : List Key} {words : List ℕ} {n : ℕ} → Keyed rows keys n → Table rows → ((j : ℕ) → j < n → get_or words j 0 ≡ (key_at keys j).high) → LettersIn rows words n
keyed_letters {rows} {keys} {words} {n} keyed table high_at = record { letter_iff = λ a x t. (to a x t, of a x t) }
  where
    to : (a x t : ℕ) → LetterAt words n a x t → Successor a x t among rows
    to a x t (j, hj, e) = let r = row_there rows keys n keyed table.fit j hj in
        subst (λ (y : Row). y among rows) (sym r ∙ letter_low (key_at keys j).high (key_at keys j).low (rw (high_at j hj) at e)) (get_or_among rows j none (omega (arith, keyed.count)))

    of : (a x t : ℕ) → Successor a x t among rows → LetterAt words n a x t
    of a x t m =
        let r = place_of (map high rows) (high (Successor a x t)) (map_in high m) in
        let long : r.0 < length rows = omega (arith, r.1, length-map rows high) in
        let l : r.0 < n = omega (arith, keyed.count) in
        let e : get_or words r.0 0 ≡ high (Successor a x t) = high_at r.0 l ∙ ap (λ (k : Key). k.high) (held_key rows keys n keyed r.0 l) ∙ sym (get_or_map high rows r.0 none 0 long) ∙ r.2 in
        (r.0, l, rw e (letter_back a x t (table.fit (Successor a x t) m)))

-- the arrays have all claims of the list; the claims in force are those about parts of p
module _ {g b : Graph} (turned : TurnedGraph g b) {all force : Claims} {rows : List Row} {claims : List Claim} {k : ℕ}
    (is : Stands g all rows claims k) (count : length (standing_sets rows) ≡ k)
    {words : List ℕ} {n : ℕ} (letters : LettersIn rows words n) {p : ℕ} (inner : InnerClaims g all p force) where
  -- what the rows and the claims say of the graph turned round
  left_iff : (i r : ℕ) → i < k → (r ∈ get_or b.rights i 0) ↔ LeftRow rows (get_or b.sets i 0) r
  left_iff i r l = rw (turned.rights_are i, turned.sets_are i) (is.masked.left_iff i r l)

  right_iff : (i r : ℕ) → i < k → (r ∈ get_or b.lefts i 0) ↔ RightRow rows r (get_or b.sets i 0)
  right_iff i r l = rw (turned.lefts_are i, turned.sets_are i) (is.masked.right_iff i r l)

  loop_iff : (i : ℕ) → (i ∈ force.loops) ↔ ((i < k) × loops (get_or b.sets i 0) among claims × (get_or b.sets i 0 ⊆ p))
  loop_iff i = rw (turned.sets_are i) (
    (λ h. let j = (inner.loops_are i).0 h in let f = (is.forced.loop_iff i).0 j.0 in (f.0, f.1, j.1)),
    λ h. (inner.loops_are i).1 ((is.forced.loop_iff i).1 (h.0, h.1), h.2),
  )

  mix_iff : (i : ℕ) → (i ∈ force.mixes) ↔ ((i < k) × mixes (get_or b.sets i 0) among claims × (get_or b.sets i 0 ⊆ p))
  mix_iff i = rw (turned.sets_are i) (
    (λ h. let j = (inner.mixes_are i).0 h in let f = (is.forced.mix_iff i).0 j.0 in (f.0, f.1, j.1)),
    λ h. (inner.mixes_are i).1 ((is.forced.mix_iff i).1 (h.0, h.1), h.2),
  )

  -- the place of a set
  place : (P : ℕ) → SetOf rows P → (i : ℕ) × (i < k) × (P ≡ get_or b.sets i 0)
  place P h = let r = set_place rows g.sets k is.masked.sets_are P h in (r.0, r.1, r.2 ∙ sym (turned.sets_are r.0))

  rise : (i j : ℕ) → i < j → j < k → get_or b.sets i 0 < get_or b.sets j 0
  rise i j h l = rw (turned.sets_are i, turned.sets_are j) (sets_rise rows g.sets k is.masked.sets_are (sym count) i j h l)

  pub sets_rise_in : SetsRise b force
  sets_rise_in = ((λ i j hi hj h. rise i j h ((loop_iff j).0 hj).0), λ i j hi hj h. rise i j h ((mix_iff j).0 hj).0)

  abbrev WayOf : ℕ → Label → ℕ → Type 0
  WayOf = Way words n b force

  -- a step that the arrays have is one of the rows; the keys of letter rows do not say what is struck
  pub way_can : (a : ℕ) (l : Label) (t : ℕ) → Free rows p a → Free rows p t → WayOf a l t → Can rows claims p a l t
  way_can a (letter x) t from to w = (
    ((letters.letter_iff a x t).0 w, both_unstruck rows a t from.1 to.1),
    tt,
    and_in p a (t ∷ []) from.0 (and_in p t [] to.0 (λ s m. absurd (Memᴰ.not-nil m))),
  )
  way_can a (ω P) t from to (i, hi, e, here, there) =
      let f = (loop_iff i).0 hi in let l = (left_iff i t f.0).0 there in
      rw e (((l.0, here), l.1), f.1, and_in p t _ to.0 (set_in p _ f.2))
  way_can a (back P) t from to (i, hi, e, here, there) =
      let f = (loop_iff i).0 hi in let r = (right_iff i a f.0).0 here in
      rw e (((r.0, there), r.1), f.1, and_in p a _ from.0 (set_in p _ f.2))
  way_can a (mix P) t from to (i, hi, e, here, there) =
      let f = (mix_iff i).0 hi in
      rw e ((mix_rows rows a _ t).0 ((right_iff i a f.0).0 here, (left_iff i t f.0).0 there), f.1, and_in p t _ to.0 (and_in p a _ from.0 (set_in p _ f.2)))

  -- and the other way round
  pub can_way : (a : ℕ) (l : Label) (t : ℕ) → Can rows claims p a l t → WayOf a l t
  can_way a (letter x) t h = (letters.letter_iff a x t).1 h.0.0
  can_way a (ω P) t h = let i = place P (LeftLimit P t, h.0.0.0, Memᴰ.head refl) in
      let part : P ⊆ p = λ s m. h.2 s (Memᴰ.tail ((members_iff P s).1 m)) in
      let f = rw i.2 at h in
      (i.0, (loop_iff i.0).1 (i.1, f.1, rw i.2 at part), i.2, f.0.0.1, (left_iff i.0 t i.1).1 (f.0.0.0, f.0.1))
  can_way a (back P) t h = let i = place P (RightLimit a P, h.0.0.0, Memᴰ.head refl) in
      let part : P ⊆ p = λ s m. h.2 s (Memᴰ.tail ((members_iff P s).1 m)) in
      let f = rw i.2 at h in
      (i.0, (loop_iff i.0).1 (i.1, f.1, rw i.2 at part), i.2, (right_iff i.0 a i.1).1 (f.0.0.0, f.0.1), f.0.0.1)
  can_way a (mix P) t h = let i = place P (RightLimit a P, h.0.0.0, Memᴰ.head refl) in
      let part : P ⊆ p = λ s m. h.2 s (Memᴰ.tail (Memᴰ.tail ((members_iff P s).1 m))) in
      let f = rw i.2 at h in
      let both = (mix_rows rows a _ t).1 f.0 in
      (i.0, (mix_iff i.0).1 (i.1, f.1, rw i.2 at part), i.2, (right_iff i.0 a i.1).1 both.0, (left_iff i.0 t i.1).1 both.1)

  -- a step of the rows is found from its end
  pub can_ahead : (s : ℕ) (l : Label) (t : ℕ) → Can rows claims p s l t → Ahead b force p s t
  can_ahead s l t h = hop_turn turned s t (step_hop is.masked is.forced p inner s t (l, h.0, h.1, h.2))

  pub ahead_can : (s t : ℕ) → Ahead b force p s t → (l : Label) × Can rows claims p s l t
  ahead_can s t h = let r = hop_step is.masked is.forced p inner s t (hop_back turned t s h) in (r.0, (r.1, r.2, r.3))
