-- A loop that writes the parts of a text at the front of a buffer, one after another: what is written and what is left (`WroteTo`), its start, the
-- room for a part, its turn, and its end.
use Prim.Native.Nat.{ℕ, ◌+◌, ◌≤◌}
use mathlib.Core.Path.{◌≡◌, refl, ap, sym, ◌∙◌}
use mathlib.Core.List.{List, [], ◌++◌, append_assoc, append-nil}
use lib.ListN.{length, drop, length-append, length-drop}
use native.Mathlib.Omega.{arith}
use Rattle.lists.specs.Writing.{Wrote, WroteAt}
use Rattle.lists.proofs.Writing.{wrote_nothing}

pub record WroteTo (text old now : List ℕ) (next : ℕ) (left : List ℕ) : Type 0 where
  pub done : List ℕ
  pub parts : text ≡ done ++ left
  pub wrote : Wrote done old now next

pub part_start : (text old : List ℕ) → WroteTo text old old 0 text
part_start text old = record { done = []; parts = refl; wrote = wrote_nothing old }

module _ {text old now left : List ℕ} {next : ℕ} (w : WroteTo text old now next left) where
  pub part_room : (t rest : List ℕ) → left ≡ t ++ rest → length text ≤ length old → next + length t ≤ length now
  part_room t rest e h =
      let whole : length text ≡ length w.done + (length t + length rest) = ap length (w.parts ∙ ap (λ (l : List ℕ). w.done ++ l) e) ∙ (simp length-append) in
      let all : length now ≡ length w.done + length (drop (length w.done) old) = ap length w.wrote.bytes_are ∙ length-append w.done (drop (length w.done) old) in
      omega (arith, whole, all, length-drop (length w.done) old, w.wrote.length_is)

  pub part_next : (t rest : List ℕ) {new : List ℕ} {r : ℕ} → left ≡ t ++ rest → WroteAt t now new next r → WroteTo text old new r rest
  part_next t rest e p = record {
    done = w.done ++ t;
    parts = w.parts ∙ ap (λ (l : List ℕ). w.done ++ l) e ∙ sym (append_assoc w.done t rest);
    wrote = p.follows w.done old w.wrote;
  }

  pub part_end : left ≡ [] → Wrote text old now next
  part_end e = rw (w.parts ∙ ap (λ (l : List ℕ). w.done ++ l) e ∙ append-nil w.done) w.wrote
