-- One derivation with exactly the claims that occur, each justified by the walks that are written for it, and none deeper than its round (`derives`).
use Prim.Native.Nat.{◌≤◌, ◌<◌}
use mathlib.Core.Path.{◌≡◌, refl, ap, sym, ◌∙◌, subst}
use mathlib.Core.Option.{Option, none, some}
use mathlib.Core.Logic.{◌⊎◌, inl, inr, ⊎_elim, ◌↔◌}
use mathlib.Core.List.Memᴰ
use mathlib.Core.List.{List, [], ◌∷◌, ◌++◌, map}
use native.Mathlib.Omega.{arith}
use native.Mathlib.Decide.{dec_lt}
use Rattle.lists.specs.Tests.{◌among◌, Once, keep, gather}
use Rattle.lists.specs.Order.{◌≺◌, Sorted}
use Rattle.lists.proofs.Deciding.{keep_decides, dec_decides, map_in, map_out, gather_in, gather_out}
use Rattle.lists.proofs.Sorting.{before_decides}
use Rattle.rows.specs.declared.Row.{Row}
use Rattle.orderings.specs.Steps.{Claim, set_of, Step, needs, Walk}
use Rattle.orderings.specs.Systems.{System, Allowed, Line, Derivation, Has, depth, Valid}
use Rattle.orderings.specs.Timelines.{timelines}
use Rattle.orderings.specs.Decide.{claim_in?}
use Rattle.orderings.proofs.Walks.{one_or_none, needed, allowed_use, allowed_change}
use Rattle.orderings.proofs.Depths.{depth_below}
use Rattle.orderings.proofs.Deciding.{claim_in_decides}
use Rattle.machine.specs.Machine.{Opening}
use Rattle.machine.specs.Statements.{loop_first, opening_key}
use Rattle.machine.specs.Word.{Before, line, Asks, Occurs, outside, within}
use Rattle.machine.specs.Expression.{round_of}
use Rattle.machine.proofs.Grounded.{Grounded}
use Rattle.machine.proofs.Tours.{round_is}
use Rattle.machine.proofs.Justified.{open_holds, written, written_hand, written_says}

abbrev claims_of : List Opening → List Claim
claims_of l = map (λ (o : Opening). o.claim) l

-- ---- the openings, the last one first

abbrev Falling : List Opening → Type 0
Falling [] = Unit {0}
Falling (o ∷ l) = ((p : Opening) → p among l → p.round ≤ o.round) × Falling l

falling_last : (l : List Opening) (o : Opening) → Falling l → ((p : Opening) → p among l → o.round ≤ p.round) → Falling (l ++ (o ∷ []))
falling_last [] o f h = ((λ p m. absurd (Memᴰ.not-nil m)), tt)
falling_last (x ∷ l) o f h = (
  (λ p m. ⊎_elim (f.0 p) (λ i. let e = ap (λ (y : Opening). y.round) (Memᴰ.eq_of_singleton i) in omega (arith, e, h x (Memᴰ.head refl))) (Memᴰ.append_cases l m)),
  falling_last l o f.1 (λ p m. h p (Memᴰ.tail m)),
)

once_last : (l : List Opening) (o : Opening) → Once (claims_of l) → ¬ (o.claim among claims_of l) → Once (claims_of (l ++ (o ∷ [])))
once_last [] o u n = (Memᴰ.not-nil, tt)
once_last (x ∷ l) o u n = (
  (λ m. let r = map_out (λ (y : Opening). y.claim) x.claim (l ++ (o ∷ [])) m in ⊎_elim
      (λ i. u.0 (subst (λ c. c among claims_of l) (sym r.2) (map_in (λ (y : Opening). y.claim) i)))
      (λ i. n (Memᴰ.head (sym (r.2 ∙ ap (λ (y : Opening). y.claim) (Memᴰ.eq_of_singleton i))))) (Memᴰ.append_cases l r.1)),
  once_last l o u.1 (λ m. n (Memᴰ.tail m)),
)

-- openings by rising round, turned round
turned : (l : List Opening) → Sorted opening_key l → Once (claims_of l) → (k : List Opening) × Falling k × ((p : Opening) → p among l ↔ p among k) × Once (claims_of k)
turned [] s u = ([], tt, (λ p. ((λ m. m), λ m. m)), tt)
turned (o ∷ l) s u = let r = turned l s.1 u.1 in let k = r.0 in (
  k ++ (o ∷ []),
  falling_last k o r.1 (λ p m. later p (dec_lt p.round o.round) (s.0 p ((r.2 p).1 m))),
  (λ p. (
    (λ m. ⊎_elim (λ e. Memᴰ.append_right k (Memᴰ.head e)) (λ i. Memᴰ.append_left (o ∷ []) ((r.2 p).0 i)) (Memᴰ.cases_cons m)),
    λ m. ⊎_elim (λ i. Memᴰ.tail ((r.2 p).1 i)) (λ i. Memᴰ.head (Memᴰ.eq_of_singleton i)) (Memᴰ.append_cases k m),
  )),
  once_last k o r.3 (λ m. let x = map_out (λ (y : Opening). y.claim) o.claim k m in
      u.0 (subst (λ c. c among claims_of l) (sym x.2) (map_in (λ (y : Opening). y.claim) ((r.2 x.0).1 x.1)))),
)
  where
    later : (p : Opening) → Dec (p.round < o.round) → ¬ (opening_key p ≺ opening_key o) → o.round ≤ p.round
    later p (yes h) n = absurd (n ((before_decides p.round o.round (set_of p.claim ∷ loop_first p.claim ∷ []) (set_of o.claim ∷ loop_first o.claim ∷ [])).of (inl h)))
    later p (no h) n = omega arith

-- a claim is opened in one round
same_round : (l : List Opening) → Once (claims_of l) → (o p : Opening) → o among l → p among l → o.claim ≡ p.claim → o.round ≡ p.round
same_round l u o p i j e = sym (round_is l u o i) ∙ (ap (round_of l) e ∙ round_is l u p j)

-- ---- what a walk asks for

module _ (rows : List Row) where
  abbrev S : System
  S = timelines rows

  asks_of : (w : Walk) (c : Claim) → c among needed S w → Asks rows w c
  unfolding needed
  asks_of [] c m = absurd (Memᴰ.not-nil m)
  asks_of (t ∷ w) c m = go (needs t.label) refl m (asks_of w c)
    where
      go : (o : Option Claim) → needs t.label ≡ o → c among (one_or_none o ++ needed S w) → (c among needed S w → Asks rows w c) → Asks rows (t ∷ w) c
      go none e i f = let r = f i in (r.0, Memᴰ.tail r.1, r.2)
      go (some d) e i f = ⊎_elim (λ x. (t, Memᴰ.head refl, e ∙ ap some (sym x))) (λ j. let r = f j in (r.0, Memᴰ.tail r.1, r.2)) (Memᴰ.cases_cons i)

  asks_in : (w : Walk) (c : Claim) → Asks rows w c → c among needed S w
  unfolding needed
  asks_in [] c a = absurd (Memᴰ.not-nil a.1)
  asks_in (t ∷ w) c a = ⊎_elim
      (λ e. Memᴰ.append_left (needed S w) (subst (λ (o : Option Claim). c among one_or_none o) (sym a.2 ∙ ap (λ (x : Step). needs x.label) e) (Memᴰ.head refl)))
      (λ i. Memᴰ.append_right (one_or_none (needs t.label)) (asks_in w c (a.0, i, a.2))) (Memᴰ.cases_cons a.1)

  -- the claims that are reached from those of a list, by the walks W for each claim
  data Reached (W : Claim → List Walk) (N : List Claim) : Claim → Type 0 where
    named : (c : Claim) → c among N → Reached W N c
    inner : (c d : Claim) (v : Walk) → Reached W N d → v among W d → c among needed S v → Reached W N c

  reached_more : (W : Claim → List Walk) (N M : List Claim) → ((c : Claim) → c among N → Reached W M c) → {c : Claim} → Reached W N c → Reached W M c
  reached_more W N M f (named c m) = f c m
  reached_more W N M f (inner c d v r i j) = inner c d v (reached_more W N M f r) i j

  module _ (l : List Opening) (ground : Grounded rows l) where
    abbrev W : Claim → List Walk
    W = written rows l

    abbrev asked : Claim → List Claim
    asked c = gather (needed S) (W c)

    asked_before : (c : Claim) → c among claims_of l → (d : Claim) → d among asked c → Before l c d
    asked_before c m d i = let r = gather_out (needed S) d (W c) i in
        allowed_use S (Before l c) r.0 (written_hand rows l ground c m r.0 r.1).1 d r.2

    -- every opening of the list is in k, or comes in no earlier round than those of k
    abbrev Left : List Opening → Type 0
    Left k = (p : Opening) → p among l → p among k ⊎ ((x : Opening) → x among k → x.round ≤ p.round)

    abbrev lines : Derivation S → List Claim
    lines D = map (λ (x : Line S). x.claim) D

    -- a derivation with the claims of N and those that they reach, with the openings k
    record Built (k : List Opening) (N : List Claim) : Type 0 where
      made : Derivation S
      fine : Valid S made
      has : (c : Claim) → c among N → Has S made c
      by : (x : Line S) → x among made → x.walks ≡ W x.claim
      only : (c : Claim) → Has S made c → Reached W N c
      from : (c : Claim) → Has S made c → c among claims_of k
      twice : Once (lines made)

    build : (k : List Opening) → Falling k → Left k → Once (claims_of k) → ((o : Opening) → o among k → o among l) → (N : List Claim) → ((c : Claim) → c among N → c among claims_of k) → Built k N
    build [] f e o p N n = record {
      made = [];
      fine = tt;
      has = λ c m. n c m;
      by = λ x m. absurd (Memᴰ.not-nil m);
      only = λ c m. absurd (Memᴰ.not-nil m);
      from = λ c m. m;
      twice = tt;
    }
    build (x ∷ k) f e o p N n = go (dec_decides (claim_in_decides N x.claim)) (build k f.1 left o.1 (λ y m. p y (Memᴰ.tail m)))
      where
        left : Left k
        left y m = ⊎_elim (λ i. ⊎_elim (λ q. inr (λ z j. let g = ap (λ (w : Opening). w.round) q in omega (arith, g, f.0 z j))) inl (Memᴰ.cases_cons i))
            (λ g. inr (λ z j. g z (Memᴰ.tail j))) (e y m)

        x_in : x among l
        x_in = p x (Memᴰ.head refl)

        c : Claim
        c = x.claim

        c_in : c among claims_of l
        c_in = map_in (λ (y : Opening). y.claim) x_in

        -- what is asked for comes later in the list
        asked_in : (d : Claim) → d among asked c → d among claims_of k
        asked_in d i = let b = asked_before c c_in d i in let y = b.1 in
            let less : y.round < x.round = let g = same_round l ground.once b.0 x b.2 x_in b.4 in omega (arith, g, b.6) in
            subst (λ (a : Claim). a among claims_of k) b.5 (map_in (λ (z : Opening). z.claim) (⊎_elim
            (λ j. ⊎_elim (λ q. let g = ap (λ (w : Opening). w.round) q in absurd (omega arith)) (λ h. h) (Memᴰ.cases_cons j))
            (λ g. let h = g x (Memᴰ.head refl) in absurd (omega arith)) (e y b.3)))

        M : List Claim
        M = keep (claim_in? (claims_of k)) N ++ asked c

        M_in : (d : Claim) → d among M → d among claims_of k
        M_in d i = ⊎_elim (λ j. ((keep_decides (claim_in_decides (claims_of k)) N d).0 j).1) (asked_in d) (Memᴰ.append_cases (keep (claim_in? (claims_of k)) N) i)

        go : Dec (c among N) → ((N : List Claim) → ((c : Claim) → c among N → c among claims_of k) → Built k N) → Built (x ∷ k) N
        go (yes i) below = let b = below M M_in in record {
          made = line rows c (W c) ∷ b.made;
          fine = (
            (open_holds rows l ground c c_in).0,
            (λ w j. let h = written_hand rows l ground c c_in w j in
                (h.0, allowed_change S (Before l c) (Has S b.made) w h.1 (λ d q. b.has d (Memᴰ.append_right (keep (claim_in? (claims_of k)) N) (gather_in (needed S) j q))))),
            written_says rows l ground c c_in,
            b.fine,
          );
          has = λ d m. ⊎_elim Memᴰ.head (λ j. Memᴰ.tail (b.has d (Memᴰ.append_left (asked c) ((keep_decides (claim_in_decides (claims_of k)) N d).1 (m, j))))) (Memᴰ.cases_cons (n d m));
          by = λ y m. ⊎_elim (λ q. ap (λ (z : Line S). z.walks) q ∙ ap (λ (z : Line S). W z.claim) (sym q)) (b.by y) (Memᴰ.cases_cons m);
          only = λ d m. ⊎_elim (λ q. named d (subst (λ (a : Claim). a among N) (sym q) i))
              (λ j. reached_more W M N (λ a h. ⊎_elim (λ g. named a ((keep_decides (claim_in_decides (claims_of k)) N a).0 g).0)
              (λ g. let r = gather_out (needed S) a (W c) g in inner a c r.0 (named c i) r.1 r.2) (Memᴰ.append_cases (keep (claim_in? (claims_of k)) N) h)) (b.only d j)) (Memᴰ.cases_cons m);
          from = λ d m. ⊎_elim Memᴰ.head (λ j. Memᴰ.tail (b.from d j)) (Memᴰ.cases_cons m);
          twice = ((λ m. o.0 (b.from c m)), b.twice);
        }
        go (no z) below = let b = below N (λ d m. ⊎_elim (λ q. absurd (z (subst (λ (a : Claim). a among N) q m))) (λ j. j) (Memᴰ.cases_cons (n d m))) in record {
          made = b.made;
          fine = b.fine;
          has = b.has;
          by = b.by;
          only = b.only;
          from = λ d m. Memᴰ.tail (b.from d m);
          twice = b.twice;
        }

    -- with exactly the claims that occur in the walk w
    pub record Derives (w : Walk) : Type 0 where
      pub made : Derivation S
      pub valid : Valid S made
      pub allows : Allowed S (Has S made) w
      pub once : Once (lines made)
      pub exactly : (c : Claim) → Has S made c ↔ Occurs rows made w c
      pub lines_are : (c : Claim) → Has S made c → line rows c (W c) among made
      pub closed : (c : Claim) → Has S made c → (v : Walk) → v among W c → Allowed S (Has S made) v
      -- its claims are open, and none is deeper than its round
      pub opened : (c : Claim) → Has S made c → c among claims_of l
      pub shallow : (c : Claim) → depth S made c ≤ round_of l c

    pub derives : (w : Walk) → Allowed S (λ c. c among claims_of l) w → Derives w
    derives w a = record {
      made = D;
      valid = b.fine;
      allows = allowed_change S (λ c. c among claims_of l) (Has S D) w a b.has;
      once = b.twice;
      exactly = λ c. ((λ m. occurs (b.only c m)), λ o. there o);
      lines_are = lines_are;
      closed = λ c m v i. closed D b.fine (line rows c (W c)) (lines_are c m) v i;
      opened = opened;
      shallow = depth_below S (round_of l) D (λ x m. falls x.claim (opened x.claim (map_in (λ (y : Line S). y.claim) m)) x.walks (b.by x m));
    }
      where
        t : (k : List Opening) × Falling k × ((p : Opening) → p among l ↔ p among k) × Once (claims_of k)
        t = turned l ground.order ground.once

        b : Built t.0 (needed S w)
        b = build t.0 t.1 (λ p m. inl ((t.2 p).0 m)) t.3 (λ p m. (t.2 p).1 m) (needed S w)
            (λ c m. let r = map_out (λ (o : Opening). o.claim) c l (allowed_use S (λ c. c among claims_of l) w a c m) in
            subst (λ (d : Claim). d among claims_of t.0) (sym r.2) (map_in (λ (o : Opening). o.claim) ((t.2 r.0).0 r.1)))

        D : Derivation S
        D = b.made

        opened : (c : Claim) → Has S D c → c among claims_of l
        opened c m = let r = map_out (λ (o : Opening). o.claim) c t.0 (b.from c m) in
            subst (λ (d : Claim). d among claims_of l) (sym r.2) (map_in (λ (o : Opening). o.claim) ((t.2 r.0).1 r.1))

        -- the rounds fall from a claim to those that its walks need
        falls : (c : Claim) → c among claims_of l → (ws : List Walk) → ws ≡ W c → (0 < round_of l c) × ((v : Walk) → v among ws → (d : Claim) → d among needed S v → round_of l d < round_of l c)
        falls c m ws e = let r = map_out (λ (o : Opening). o.claim) c l m in (
          omega (arith, ap (round_of l) r.2, round_is l ground.once r.0 r.1, ground.low r.0 r.1),
          λ v i d j. let q = asked_before c m d (gather_in (needed S) (subst (λ (x : List Walk). v among x) e i) j) in
              omega (arith, q.6, ap (round_of l) q.4, ap (round_of l) q.5, round_is l ground.once q.0 q.2, round_is l ground.once q.1 q.3),
        )

        lines_are : (c : Claim) → Has S D c → line rows c (W c) among D
        lines_are c m = let r = map_out (λ (x : Line S). x.claim) c D m in
            let e : line rows c (W c) ≡ r.0 = let x = r.0 in let f = b.by x r.1 in
            let parts : line rows c (W c) ≡ line rows x.claim x.walks = cc r.2 in parts in
            subst (λ (x : Line S). x among D) (sym e) r.1

        more : (D : Derivation S) (y : Line S) (v : Walk) → Allowed S (Has S D) v → Allowed S (Has S (y ∷ D)) v
        more D y v h = allowed_change S (Has S D) (Has S (y ∷ D)) v h (λ c m. Memᴰ.tail (allowed_use S (Has S D) v h c m))

        closed : (D : Derivation S) → Valid S D → (x : Line S) → x among D → (v : Walk) → v among x.walks → Allowed S (Has S D) v
        closed [] h x m v i = absurd (Memᴰ.not-nil m)
        closed (y ∷ D) h x m v i = ⊎_elim (λ e. more D y v (h.1 v (subst (λ (z : Line S). v among z.walks) e i)).1) (λ j. more D y v (closed D h.3 x j v i)) (Memᴰ.cases_cons m)

        reached_has : {c : Claim} → Reached W (needed S w) c → Has S D c
        reached_has (named c m) = b.has c m
        reached_has (inner c d v r i j) = let m = reached_has r in allowed_use S (Has S D) v (closed D b.fine (line rows d (W d)) (lines_are d m) v i) c j

        occurs : {c : Claim} → Reached W (needed S w) c → Occurs rows D w c
        occurs (named c m) = outside c (asks_of w c m)
        occurs (inner c d v r i j) = within c d (W d) v (occurs r) (lines_are d (reached_has r)) i (asks_of v c j)

        there : {c : Claim} → Occurs rows D w c → Has S D c
        there (outside c q) = b.has c (asks_in w c q)
        there (within c d ws v r i j q) = allowed_use S (Has S D) v (closed D b.fine (line rows d ws) i v j) c (asks_in v c q)
