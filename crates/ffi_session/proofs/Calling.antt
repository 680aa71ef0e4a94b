-- A call more by what its method promises: with the buffer (`makes_in`), without one (`makes`), none (`makes_none`); the calls that bytes name;
-- and a list of them, byte by byte (`Making`, `making_start`, `making_more`, `making_end`).
use Prim.Native.Nat.{ℕ, zero, suc, ◌+◌, ◌-◌, ◌≤◌, ◌<◌}
use mathlib.Core.Path.{◌≡◌, refl, ap, sym, ◌∙◌, subst}
use mathlib.Core.List.{List, [], ◌∷◌, ◌++◌}
use lib.ListN.{length, get_or, drop, drop_of_length-le}
use lib.Seq.{drop-cons}
use native.Mathlib.Omega.{arith}
use native.Mathlib.Numerals.{add-one}
use borrow.Author.Tests.{ne_eqb}
use Rattle.lists.specs.Tests.{gather}
use Rattle.machine.specs.Calls.{Answer}
use Rattle.std.specs.Prelude.{Ok}
use Rattle.machine.specs.declared.Success.TheVariants.{Done}
use Rattle.machine.specs.Calls.{Outcome, done, wrote, decided, refused, buffer_after, due}
use Rattle.machine.specs.Marks.{MarkedCall, mark, return_to, marked_call, MarkedBrings}
use Rattle.machine.proofs.Marks.{marked_formed, fresh_formed}
use Rattle.session.specs.declared.Session.{Session}
use Rattle.session.specs.declared.Reply.{Reply}
use Rattle.session.specs.Promise.{Fresh, Promised}
use Rattle.session.specs.Standing.{reply}
use Rattle.codes.specs.Coding.{Codes}
use Rattle.ffi_session.specs.Promise.{words, call_of, Left, at_first, after_call, after, left_by, Shows, Makes, Answers, CalledSession}

-- ---- one call

-- a call that has no buffer leaves any buffer as it was
unlent : (o : Outcome) → [] ≡ buffer_after o [] → (old : List ℕ) → old ≡ buffer_after o old
unlent done e old = refl
unlent (wrote []) e old = refl
unlent (wrote (x ∷ l)) e old = let z : ◌≡◌ {A = ℕ} 0 (suc (length (l ++ []))) = ap length e in absurd (omega (arith, z))
unlent (decided v) e old = refl
unlent (refused n place) e old = refl

-- what holds after the call that a byte names
as_named : (batch : List ℕ) (size b k : ℕ) (c : MarkedCall) → call_of batch size k ≡ c ∷ [] → b ≡ k → (x : Left) (P : Left → Type 0) → P (after_call x c) → P (after x (call_of batch size b))
as_named batch size b k c n e x P h = subst (λ (l : List MarkedCall). P (after x l)) (sym (ap (call_of batch size) e ∙ n)) h

module _ (batch old : List ℕ) {b : ℕ} {before r : Reply} (k : ℕ) (c : MarkedCall) (g : MarkedBrings c) (n : call_of batch (length old) k ≡ c ∷ []) (e : b ≡ k) where
  pub makes_in : {new : List ℕ} → Promised before.session c old new r → Makes batch b before old new r
  makes_in {new} p x h = let d = p.keeps x.machine h.session_is in as_named batch (length old) b k c n e x (λ (y : Left). Shows y r new) record {
    session_is = record { formed = marked_formed x.machine h.session_is.formed c g; whole = d.session_is };
    answer_is = d.tells.answer_is;
    buffer_is = d.tells.buffer_is ∙ ap (buffer_after (marked_call x.machine c).answer) h.buffer_is;
  }

  pub makes : Promised before.session c [] [] r → Makes batch b before old old r
  makes p x h = let d = p.keeps x.machine h.session_is in as_named batch (length old) b k c n e x (λ (y : Left). Shows y r old) record {
    session_is = record { formed = marked_formed x.machine h.session_is.formed c g; whole = d.session_is };
    answer_is = d.tells.answer_is;
    buffer_is = h.buffer_is ∙ unlent (marked_call x.machine c).answer d.tells.buffer_is x.buffer;
  }

-- ---- bytes

-- one of four numbers
four : (P : ℕ → Type 0) → P 0 → P 1 → P 2 → P 3 → (d : ℕ) → d < 4 → P d
four P p0 p1 p2 p3 zero h = p0
four P p0 p1 p2 p3 (suc zero) h = p1
four P p0 p1 p2 p3 (suc (suc zero)) h = p2
four P p0 p1 p2 p3 (suc (suc (suc zero))) h = p3
four P p0 p1 p2 p3 (suc (suc (suc (suc d)))) h = absurd (omega (arith, h))

module _ (batch : List ℕ) (size b : ℕ) where
  pub marks_named : 49 ≤ b → b ≤ 52 → call_of batch size b ≡ mark ((b + 48) ∷ []) ∷ []
  unfolding call_of words
  marks_named g h = let e : b ≡ 49 + (b - 49) = omega arith in let l : b - 49 < 4 = omega arith in
      subst (λ (x : ℕ). call_of batch size x ≡ mark ((x + 48) ∷ []) ∷ []) (sym e) (four (λ d. call_of batch size (49 + d) ≡ mark ((49 + d + 48) ∷ []) ∷ []) refl refl refl refl (b - 49) l)

  pub returns_named : 53 ≤ b → b ≤ 56 → call_of batch size b ≡ return_to ((b + 44) ∷ []) ∷ []
  unfolding call_of words
  returns_named g h = let e : b ≡ 53 + (b - 53) = omega arith in let l : b - 53 < 4 = omega arith in
      subst (λ (x : ℕ). call_of batch size x ≡ return_to ((x + 44) ∷ []) ∷ []) (sym e) (four (λ d. call_of batch size (53 + d) ≡ return_to ((53 + d + 44) ∷ []) ∷ []) refl refl refl refl (b - 53) l)

  -- a byte beside the table
  pub none_named : ¬ (b ≡ 108) → ¬ (b ≡ 119) → ¬ (b ≡ 99) → ¬ (b ≡ 114) → ¬ (b ≡ 111) → ¬ (b ≡ 118) → ¬ (b ≡ 112) → ¬ (b ≡ 115) → ¬ (b ≡ 101)
      → ((d : ℕ) → d < 8 → ¬ (b ≡ 49 + d)) → call_of batch size b ≡ []
  unfolding call_of words
  none_named l w c r o v p s e d =
      rw (
        ne_eqb b 108 l,
        ne_eqb b 119 w,
        ne_eqb b 99 c,
        ne_eqb b 114 r,
        ne_eqb b 111 o,
        ne_eqb b 118 v,
        ne_eqb b 112 p,
        ne_eqb b 115 s,
        ne_eqb b 101 e,
        ne_eqb b 49 (d 0 (omega arith)),
        ne_eqb b 50 (d 1 (omega arith)),
        ne_eqb b 51 (d 2 (omega arith)),
        ne_eqb b 52 (d 3 (omega arith)),
        ne_eqb b 53 (d 4 (omega arith)),
        ne_eqb b 54 (d 5 (omega arith)),
        ne_eqb b 55 (d 6 (omega arith)),
        ne_eqb b 56 (d 7 (omega arith)),
      )
      refl

-- where no call is named, all stays
pub makes_none : (batch old : List ℕ) (b : ℕ) {before : Reply} → call_of batch (length old) b ≡ [] → Makes batch b before old old before
makes_none batch old b {before} n x h = subst (λ (l : List MarkedCall). Shows (after x l) before old) (sym n) h

-- ---- byte by byte

after_more : (x : Left) (cs ds : List MarkedCall) → after x (cs ++ ds) ≡ after (after x cs) ds
after_more x [] ds = refl
after_more x (c ∷ cs) ds = after_more (after_call x c) cs ds

-- the calls of the first i bytes were made, and those of the others lead to what all leave
pub record Making (batch calls old : List ℕ) (i : ℕ) (r : Reply) (l : List ℕ) : Type 0 where
  pub now : Left
  pub shows : Shows now r l
  pub same : length l ≡ length old
  pub leads : after now (gather (call_of batch (length old)) (drop i calls)) ≡ left_by batch calls old

module _ (batch calls old : List ℕ) where
  pub making_start : (s : Session) → Fresh s → Making batch calls old 0 (reply s (Ok Done)) old
  making_start s f = record {
    now = at_first old;
    shows = record { session_is = record { formed = fresh_formed; whole = f }; answer_is = refl; buffer_is = refl };
    same = refl;
    leads = refl;
  }

  pub making_more : {i : ℕ} {r r' : Reply} {l l' : List ℕ} → i < length calls → Making batch calls old i r l → length l' ≡ length l
      → Makes batch (get_or calls i 0) r l l' r' → Making batch calls old (i + 1) r' l'
  making_more {i} {r} {r'} {l} {l'} h m s k = let b = get_or calls i 0 in let f = call_of batch (length old) in record {
    now = after m.now (f b);
    shows = subst (λ (n : ℕ). Shows (after m.now (call_of batch n b)) r' l') m.same (k m.now m.shows);
    same = s ∙ m.same;
    leads = sym (after_more m.now (f b) (gather f (drop (i + 1) calls))) ∙ (ap (λ (t : List ℕ). after m.now (gather f t)) (sym (drop-cons calls i 0 h ∙ ap (λ (n : ℕ). get_or calls i 0 ∷ drop n calls) (sym (add-one i)))) ∙ m.leads);
  }

  pub making_end : {i : ℕ} {r : Reply} {l : List ℕ} → length calls ≤ i → Making batch calls old i r l → Answers batch calls old l r.answer
  making_end {i} {r} {l} h m = let e : m.now ≡ left_by batch calls old = ap (λ (t : List ℕ). after m.now (gather (call_of batch (length old)) t)) (sym (drop_of_length-le calls h)) ∙ m.leads in
      record { answer_is = m.shows.answer_is ∙ ap (λ (x : Left). due x.answer) e; buffer_is = m.shows.buffer_is ∙ ap (λ (x : Left). x.buffer) e }

-- the last answer as a number
pub called_session : {batch calls old new : List ℕ} {a : Answer} → Answers batch calls old new a → (before after r : ℕ) → Codes a before after r → CalledSession batch calls old new before after r
called_session k before after r h = record { coded = h _ k.answer_is; buffer_is = k.buffer_is }
