-- A loop over a list whose elements each have a text: the texts that are left (`items_next`), how long those passed are (`items_more`), and its turn
-- where they are written one after another (`item_room`, `item_next`).
use Prim.Native.Nat.{ℕ, ◌+◌, ◌≤◌, ◌<◌}
use mathlib.Core.Path.{◌≡◌, refl, ap, ◌∙◌}
use mathlib.Core.List.{List, ◌++◌}
use native.Mathlib.Numerals.{add-one}
use lib.ListN.{length, take, drop, get_or, length-append}
use lib.Seq.{drop-cons}
use Rattle.std.proofs.lemmas.List.{take_more}
use Rattle.lists.specs.Tests.{gather}
use Rattle.lists.specs.Writing.{WroteAt}
use Rattle.lists.proofs.Places.{gather_last}
use Rattle.texts.proofs.Parts.{WroteTo, part_room, part_next}

module _ {A : Type 0} (f : A → List ℕ) (l : List A) (i : ℕ) (d : A) (h : i < length l) where
  -- the element at i, and the others
  pub items_next : gather f (drop i l) ≡ f (get_or l i d) ++ gather f (drop (i + 1) l)
  items_next = rw (add-one, drop-cons l i d) refl

  pub items_more : length (gather f (take (i + 1) l)) ≡ length (gather f (take i l)) + length (f (get_or l i d))
  items_more = ap length (ap (gather f) (take_more l i d h) ∙ gather_last f (take i l) (get_or l i d)) ∙ length-append (gather f (take i l)) (f (get_or l i d))

  module _ {text old now : List ℕ} {next : ℕ} (w : WroteTo text old now next (gather f (drop i l))) where
    -- there is room for it, where there is room for all
    pub item_room : length text ≤ length old → next + length (f (get_or l i d)) ≤ length now
    item_room room = part_room w (f (get_or l i d)) (gather f (drop (i + 1) l)) items_next room

    pub item_next : {new : List ℕ} {r : ℕ} → WroteAt (f (get_or l i d)) now new next r → WroteTo text old new r (gather f (drop (i + 1) l))
    item_next p = part_next w (f (get_or l i d)) (gather f (drop (i + 1) l)) items_next p
