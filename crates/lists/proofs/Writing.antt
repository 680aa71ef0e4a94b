-- Laws of writing at the front of a buffer (`wrote_fits`, `wrote_back`: what was written is within it, and is read), and into the rest after what was written.
use Prim.Native.Nat.{ℕ, suc, ◌+◌, ◌-◌, ◌≤◌}
use mathlib.Core.Path.{◌≡◌, refl, ap, sym, ◌∙◌}
use mathlib.Core.List.{List, [], ◌∷◌, ◌++◌, append_assoc, append-nil}
use native.Mathlib.Omega.{arith}
use lib.ListN.{length, take, drop, set, length-append, length-drop, drop_of_length-le}
use lib.Seq.{set_at, append_snoc, take_at, drop_at, take_all, drop-drop}
use Rattle.lists.specs.Writing.{Wrote, WroteAt}

-- the buffer after the numbers of a text are stored from place i on
abbrev pub put_all : List ℕ → ℕ → List ℕ → List ℕ
put_all l i [] = l
put_all l i (b ∷ t) = put_all (set l i b) (suc i) t

-- after what stands ahead, and ahead of what is left
put_after : (p t l : List ℕ) → length t ≤ length l → put_all (p ++ l) (length p) t ≡ p ++ (t ++ drop (length t) l)
put_after p [] l h = refl
put_after p (b ∷ t) [] h = absurd (omega arith)
put_after p (b ∷ t) (x ∷ l) h =
    let e : set (p ++ (x ∷ l)) (length p) b ≡ (p ++ (b ∷ [])) ++ l = set_at p x l b (length p) refl ∙ sym (append_snoc p b l) in
    let n : suc (length p) ≡ length (p ++ (b ∷ [])) = simp length-append (omega arith) in
    rw (e, n) (put_after (p ++ (b ∷ [])) t l (omega arith) ∙ append_snoc p b (t ++ drop (length t) l))

-- the text stands at the front, and beyond it what the buffer had
pub wrote_all : (t l : List ℕ) → length t ≤ length l → Wrote t l (put_all l 0 t) (length t)
wrote_all t l h = record { length_is = refl; bytes_are = put_after [] t l h }

pub wrote_nothing : (old : List ℕ) → Wrote [] old old 0
wrote_nothing old = record { length_is = refl; bytes_are = refl }

-- what was written is within the buffer, and its front is the text
module _ {t old new : List ℕ} {n : ℕ} (w : Wrote t old new n) where
  pub wrote_fits : n ≤ length new
  wrote_fits = omega (arith, w.length_is, ap length w.bytes_are ∙ length-append t (drop (length t) old))

  pub wrote_back : take n new ≡ t
  wrote_back = ap (take n) w.bytes_are ∙ take_at t (drop (length t) old) n (sym w.length_is)

-- a text t, and then u into the part after it: t ++ u
pub wrote_part : (t u old mid part : List ℕ) {a b : ℕ} → Wrote t old mid a → Wrote u (take (length mid - a) (drop a mid)) part b
    → Wrote (t ++ u) old (take a mid ++ (part ++ drop (length mid - a) (drop a mid))) (a + b)
wrote_part t u old mid part {a} {b} w v =
    let whole : take (length mid - a) (drop a mid) ≡ drop a mid = take_all (length mid - a) (drop a mid) (simp length-drop (omega arith)) in
    let none : drop (length mid - a) (drop a mid) ≡ [] = drop_of_length-le (drop a mid) {i = length mid - a} (simp length-drop (omega arith)) in
    let front : take a mid ≡ t = wrote_back w in
    let rest : drop a mid ≡ drop (length t) old = ap (drop a) w.bytes_are ∙ drop_at t (drop (length t) old) a (sym w.length_is) in
    let body : part ≡ u ++ drop (length (t ++ u)) old =
    v.bytes_are ∙ ap (λ (l : List ℕ). u ++ drop (length u) l) (whole ∙ rest)
    ∙ (rw (drop-drop, length-append)) in
    record {
      length_is = rw length-append (omega (arith, w.length_is, v.length_is));
      bytes_are = rw (front, none, append-nil, body, append_assoc);
    }

-- nothing, from a place on
pub wrote_at_none : (old : List ℕ) (at : ℕ) → WroteAt [] old old at at
wrote_at_none old at = record { place_is = omega arith; follows = λ before base w. rw append-nil w }

-- one text after another
pub wrote_at_more : (t u old mid new : List ℕ) {a b c : ℕ} → WroteAt t old mid a b → WroteAt u mid new b c → WroteAt (t ++ u) old new a c
wrote_at_more t u old mid new p q = record {
  place_is = rw length-append (omega (arith, p.place_is, q.place_is));
  follows = λ before base w. rw append_assoc at (q.follows (before ++ t) base (p.follows before base w));
}

-- what is written into the part from a place on, said of the whole
pub wrote_at_part : (u old part : List ℕ) (at : ℕ) {b : ℕ} → Wrote u (take (length old - at) (drop at old)) part b
    → WroteAt u old (take at old ++ (part ++ drop (length old - at) (drop at old))) at (at + b)
wrote_at_part u old part at v = record {
  place_is = omega (arith, v.length_is);
  follows = λ before base w. wrote_part before u base old part w v;
}

-- from the front on
pub wrote_at_front : (t old new : List ℕ) {r : ℕ} → WroteAt t old new 0 r → Wrote t old new r
wrote_at_front t old new n = n.follows [] old (wrote_nothing old)
