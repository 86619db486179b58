-- Number 10: the scope numbers of the nodes passed, where each stands, how many they are, and the largest.
use Prim.Native.Nat.{ℕ, ◌+◌, ◌-◌, ◌*◌, ◌/◌, ◌%◌, ◌≤◌, ◌<◌, max}
use mathlib.Core.Path.{◌≡◌, refl, sym, ap, ◌∙◌, subst}
use mathlib.Core.Bool.{Bool, true, false, cond, true≢false}
use mathlib.Core.Logic.{◌⊎◌, inl, inr, ⊎_elim}
use mathlib.Core.List.{List, [], ◌∷◌, ◌++◌, append-nil}
use native.Mathlib.Omega.{arith}
use native.Mathlib.Decide.{ℕ_discrete, dec_lt}
use native.Mathlib.Numerals.{add-one}
use borrow.Author.Count.{below_more}
use lib.Dec.{ltb}
use lib.ListN.{length, get_or, set, take, drop, length-append, length-drop, length-set}
use lib.Seq.{drop-drop, get_or-set_same, get_or-set_other}
use Rattle.std.proofs.lemmas.Bool.{ltb-true, ltb-false}
use Rattle.base.specs.Says.{Says}
use Rattle.base.specs.Parts.{part-from}
use Rattle.base.specs.UpTo.{up_to, up_to_snoc, up_to_front}
use Rattle.lexical.specs.Places.{In, Distinct, in_snoc, in_left, in_right, distinct_left}
use Rattle.lexical.specs.Claims.{Once}
use Rattle.lexical.proofs.Laws.Scopes.{once_filled}
use Rattle.nodefile.specs.Node.{kind_of, value_of}
use Rattle.shape.specs.Nodes.{at, has_scope}
use Rattle.nodefile.specs.Chosen.{chosen, chosen_append}
use Rattle.scoping.specs.Scopes.{is_scope, number, numbers, scope_numbers, EachOnce, BadScopes, not-each_once, many_scopes}
use Rattle.scoping.specs.Inside.Found.{Unset, Scope, Source, Found}
use Rattle.marks.specs.Marks.{Marked, Set, marked_none, marked_more, marked_again}

-- ---- the numbers of the first nodes

pub numbers_more : (ns : List ℕ) (m : ℕ) → numbers ns (m + 1) ≡ numbers ns m ++ cond (is_scope ns m) (number ns m ∷ []) []
unfolding chosen
numbers_more ns m =
    ap (λ (x : ℕ). numbers ns x) (add-one m) ∙ ap (chosen (is_scope ns) (number ns)) (up_to_snoc (λ i. i) m)
    ∙ chosen_append (is_scope ns) (number ns) (up_to (λ i. i) m) (m ∷ [])

pub numbers-front : (ns : List ℕ) (k n : ℕ) → k ≤ n → (ys : List ℕ) × (numbers ns n ≡ numbers ns k ++ ys)
numbers-front ns k n h =
    let r = up_to_front (λ i. i) k n h in
    (chosen (is_scope ns) (number ns) r.0, ap (chosen (is_scope ns) (number ns)) r.1 ∙ chosen_append (is_scope ns) (number ns) (up_to (λ i. i) k) r.0)

-- ---- the walk

pub record Noting (ns found : List ℕ) (next count top : ℕ) (t : List ℕ) : Type 0 where
  pub part : t ≡ at ns next
  pub inside : 8 * next ≤ length ns
  pub size : length found ≡ 256
  pub marks : Marked Set found (numbers ns next)
  pub counted : count ≡ length (numbers ns next)
  pub few : count ≤ next
  pub range : (v : ℕ) → In v (numbers ns next) → (1 ≤ v) × (v ≤ 255) × (v ≤ top)
  pub reached : (top ≡ 0) ⊎ In top (numbers ns next)
  pub note : (k : ℕ) → k < next → is_scope ns k ≡ true → get_or found (number ns k) 0 ≡ k + 1
  pub back : (v : ℕ) → (get_or found v 0 ≡ 0 → ⊥) → Source ns found v

pub noting_none : (ns : List ℕ) {found : List ℕ} → Unset found → Noting ns found 0 0 0 ns
unfolding chosen up_to
noting_none ns {found} u =
    record {
      part = refl;
      inside = omega arith;
      size = u.size;
      marks = marked_none found (λ v h. h (u.zero v));
      counted = refl;
      few = omega arith;
      range = λ v h. absurd h;
      reached = inl refl;
      note = λ k h. absurd (omega arith);
      back = λ v h. absurd (h (u.zero v));
    }

module _ {ns found : List ℕ} {next count top : ℕ} {t : List ℕ} (n : Noting ns found next count top t) where
  left : length t ≡ length ns - 8 * next
  left = ap length n.part ∙ length-drop (8 * next) ns

  -- ---- one node more
  module _ (h : 8 ≤ length t) where
    further : take (length t - 8) (drop 8 t) ≡ at ns (next + 1)
    further =
        let e : 8 * next + 8 ≡ 8 * (next + 1) = omega arith in
        part-from t 8 ∙ ap (drop 8) n.part ∙ drop-drop 8 (8 * next) ns ∙ ap (λ (x : ℕ). drop x ns) e

    pub noting_skip : has_scope (kind_of t) ≡ false → Noting ns found (next + 1) count top (take (length t - 8) (drop 8 t))
    noting_skip e =
        record {
          part = further;
          inside = omega (arith, left);
          size = n.size;
          marks = subst (Marked Set found) (sym same) n.marks;
          counted = n.counted ∙ sym (ap length same);
          few = omega (arith, n.few);
          range = λ v i. n.range v (subst (In v) same i);
          reached = subst (λ (l : List ℕ). (top ≡ 0) ⊎ In top l) (sym same) n.reached;
          note = below_more _ next n.note (λ q. absurd (true≢false (sym q ∙ other)));
          back = n.back;
        }
      where
        other : is_scope ns next ≡ false
        other = subst (λ (u : List ℕ). has_scope (kind_of u) ≡ false) n.part e

        same : numbers ns (next + 1) ≡ numbers ns next
        same = numbers_more ns next ∙ ap (λ (b : Bool). numbers ns next ++ cond b (number ns next ∷ []) []) other ∙ append-nil (numbers ns next)

    -- a Def or a Lambda with the number v
    module _ {v : ℕ} (e : v ≡ value_of t) (s : has_scope (kind_of t) ≡ true) where
      scope : is_scope ns next ≡ true
      scope = subst (λ (u : List ℕ). has_scope (kind_of u) ≡ true) n.part s

      numbered : v ≡ number ns next
      numbered = e ∙ ap value_of n.part

      more : numbers ns (next + 1) ≡ numbers ns next ++ (v ∷ [])
      more = numbers_more ns next ∙ ap (λ (b : Bool). numbers ns next ++ cond b (number ns next ∷ []) []) scope ∙ ap (λ (x : ℕ). numbers ns next ++ (x ∷ [])) (sym numbered)

      -- the whole list starts with these
      whole : (ys : List ℕ) × (scope_numbers ns ≡ (numbers ns next ++ (v ∷ [])) ++ ys)
      whole = let r = numbers-front ns (next + 1) (length ns / 8) (omega (arith, left)) in (r.0, r.1 ∙ ap (λ (l : List ℕ). l ++ r.0) more)

      among : In v (scope_numbers ns)
      among = subst (In v) (sym whole.1) (in_left v (numbers ns next ++ (v ∷ [])) whole.0 (in_right v (numbers ns next) (v ∷ []) (inl refl)))

      pub noting_zero : v ≡ 0 → BadScopes ns
      noting_zero z = not-each_once (λ o. omega (arith, o.once.low v among, o.once.high v among))

      pub noting_high : 255 < v → BadScopes ns
      noting_high z = elim (dec_lt 255 (length (scope_numbers ns))) [ yes l ↦ many_scopes l | no l ↦ not-each_once (λ o. omega (arith, o.once.low v among, o.once.high v among)) ]

      pub noting_twice : (get_or found v 0 ≡ 0 → ⊥) → BadScopes ns
      noting_twice z = not-each_once (λ o. marked_again n.marks v z [] (distinct_left (numbers ns next ++ (v ∷ [])) whole.0 (subst Distinct whole.1 o.once.apart)))

      module _ (low : 0 < v) (high : v ≤ 255) (free : get_or found v 0 ≡ 0) where
        mine : get_or (set found v (next + 1)) v 0 ≡ next + 1
        mine = get_or-set_same found v (next + 1) 0 (omega (arith, n.size))

        others : (u : ℕ) → (u ≡ v → ⊥) → get_or (set found v (next + 1)) u 0 ≡ get_or found u 0
        others u q = get_or-set_other found v u (next + 1) 0 q

        noted : (k : ℕ) → k < next → is_scope ns k ≡ true → get_or (set found v (next + 1)) (number ns k) 0 ≡ k + 1
        noted k l q =
            let o = n.note k l q in
            others (number ns k) (λ r. omega (arith, o, ap (λ (x : ℕ). get_or found x 0) r)) ∙ o

        source : (u : ℕ) → (get_or (set found v (next + 1)) u 0 ≡ 0 → ⊥) → Source ns (set found v (next + 1)) u
        source u z =
            elim (ℕ_discrete u v) [
              | yes q ↦ record { node = next; is = record { inside = omega (arith, left); scope = scope }; number = sym numbered ∙ sym q; cell = ap (λ (x : ℕ). get_or (set found v (next + 1)) x 0) q ∙ mine }
              | no q ↦ old q (n.back u (λ r. z (others u q ∙ r)))
            ]
          where
            old : (u ≡ v → ⊥) → Source ns found u → Source ns (set found v (next + 1)) u
            old q o = record { node = o.node; is = o.is; number = o.number; cell = others u q ∙ o.cell }

        ranged : (u : ℕ) → In u (numbers ns next ++ (v ∷ [])) → (1 ≤ u) × (u ≤ 255) × (u ≤ max top v)
        ranged u i = ⊎_elim (λ j. omega (arith, n.range u j)) (λ q. omega arith) (in_snoc u v (numbers ns next) i)

        reach : (max top v ≡ 0) ⊎ In (max top v) (numbers ns next ++ (v ∷ []))
        reach = elim (dec_lt top v) [ yes l ↦ last l | no l ↦ ⊎_elim (λ z. absurd (omega arith)) (λ i. first l i) n.reached ]
          where
            last : top < v → (max top v ≡ 0) ⊎ In (max top v) (numbers ns next ++ (v ∷ []))
            last l = let q : max top v ≡ v = omega arith in inr (in_right (max top v) (numbers ns next) (v ∷ []) (inl q))

            first : (top < v → ⊥) → In top (numbers ns next) → (max top v ≡ 0) ⊎ In (max top v) (numbers ns next ++ (v ∷ []))
            first l i = let q : top ≡ max top v = omega arith in inr (in_left (max top v) (numbers ns next) (v ∷ []) (subst (λ (x : ℕ). In x (numbers ns next)) q i))

        pub noting_more : {larger : ℕ} → larger ≡ max top v → Noting ns (set found v (next + 1)) (next + 1) (count + 1) larger (take (length t - 8) (drop 8 t))
        noting_more {larger} m =
            subst (λ (x : ℕ). Noting ns (set found v (next + 1)) (next + 1) (count + 1) x (take (length t - 8) (drop 8 t))) (sym m) (record {
              part = further;
              inside = omega (arith, left);
              size = length-set found v (next + 1) ∙ n.size;
              marks = subst (Marked Set (set found v (next + 1))) (sym more) (marked_more n.marks v (next + 1) (omega (arith, n.size)) (λ q. omega arith) (λ z. z free));
              counted = omega (arith, n.counted, ap length more, length-append (numbers ns next) (v ∷ []));
              few = omega (arith, n.few);
              range = λ u i. ranged u (subst (In u) more i);
              reached = subst (λ (l : List ℕ). (max top v ≡ 0) ⊎ In (max top v) l) (sym more) reach;
              note = below_more _ next noted (λ q. ap (λ (x : ℕ). get_or (set found v (next + 1)) x 0) (sym numbered) ∙ mine);
              back = source;
            })

  -- ---- all nodes were passed
  module _ (h : length t < 8) where
    all : scope_numbers ns ≡ numbers ns next
    all = let e : length ns / 8 ≡ next = omega (arith, left, n.inside) in ap (numbers ns) e

    pub noting_gap : count < top → BadScopes ns
    noting_gap l = not-each_once (λ o. ⊎_elim (λ z. omega arith) (λ i. omega (arith, n.counted, ap length all, o.once.high top (subst (In top) (sym all) i))) n.reached)

    module _ (l : top ≤ count) where
      within : (v : ℕ) → In v (scope_numbers ns) → (1 ≤ v) × (v ≤ length (scope_numbers ns))
      within v i = omega (arith, n.range v (subst (In v) all i), n.counted, ap length all)

      apart : Distinct (scope_numbers ns)
      apart = subst Distinct (sym all) n.marks.apart

      pub noting_each : EachOnce (scope_numbers ns)
      noting_each = record { all = once_filled (scope_numbers ns) each; once = each }
        where
          each : Once (scope_numbers ns)
          each = record { apart = apart; low = λ v i. (within v i).0; high = λ v i. (within v i).1 }

      pub noting_end : BadScopes ns → ⊥
      noting_end (not-each_once f) = f noting_each
      noting_end (many_scopes m) = omega (arith, n.range (length (scope_numbers ns)) (subst (In (length (scope_numbers ns))) all (noting_each.all (length (scope_numbers ns)) (omega arith) (omega arith))))

      module _ (m : length ns % 8 ≡ 0) where
        cell_of : (i : ℕ) → Scope ns i → get_or found (number ns i) 0 ≡ i + 1
        cell_of i s = n.note i (omega (arith, left, s.inside)) s.scope

        counted_in : (i : ℕ) → Scope ns i → In (number ns i) (scope_numbers ns)
        counted_in i s = subst (In (number ns i)) (sym all) (n.marks.back (number ns i) (λ z. omega (arith, cell_of i s)))

        pub noting_found : Found ns found
        noting_found =
            record {
              low = λ i s. (within (number ns i) (counted_in i s)).0;
              high = λ i s. omega (arith, n.range (number ns i) (subst (In (number ns i)) all (counted_in i s)));
              note = cell_of;
              back = n.back;
              last = λ v z u i s. elim (dec_lt (number ns i) v) [
                | yes b ↦ b
                | no b ↦ absurd (n.marks.into v (subst (In v) all (noting_each.all v z (omega (arith, within (number ns i) (counted_in i s))))) u)
              ];
            }

  -- the answer: whether fewer were met than the largest number says
  pub noting_answer : length t < 8 → length ns % 8 ≡ 0 → Says (ltb count top) (BadScopes ns) × (ltb count top ≡ false → Found ns found)
  noting_answer h m = (says (ltb count top) refl, λ e. noting_found h (ltb-false count top e) m)
    where
      says : (b : Bool) → ltb count top ≡ b → Says b (BadScopes ns)
      says true e = noting_gap h (ltb-true count top e)
      says false e = noting_end h (ltb-false count top e)
