-- What the bounds and the Names' rows use of document 01's table: `Headed` and `Tidy`.
use Rattle.std.specs.Prelude.{◌≡◌, refl, ◌∷◌, true, false, cond, ◌&&◌, ℕ, ◌≤◌, leb}
use Rattle.std.proofs.Common.{arith, leb-true}
use Rattle.lexical.specs.Lists.{Tested, was, wasnt, tested}
use Rattle.lexical.specs.Tree.{Forest, nil, node, pick, shut}
use Rattle.lexical.specs.Table.{Exprs, Headed, Tidy, FirstName, row, within, head_in, drop_one, drop_many, is_empty, matches, allowed, kinds, Tabled}
use Rattle.lexical.proofs.Theory.Kinds.{by_cases}
use Rattle.lexical.proofs.Theory.Slots.{both_true}

pub in_range : (lo hi k : ℕ) → within lo hi k ≡ true → (lo ≤ k) × (k ≤ hi)
unfolding within
in_range lo hi k e = let p = both_true (leb lo k) (leb k hi) e in (leb-true lo k p.0, leb-true k hi p.1)

-- an expression's kind gives no targets
pub expr_shut : (k : ℕ) → 11 ≤ k → k ≤ 14 → pick k ≡ shut
unfolding pick
expr_shut = by_cases 15 (λ k. 11 ≤ k → k ≤ 14 → pick k ≡ shut) ((λ a b. absurd (omega arith)), ((λ a b. absurd (omega arith)), ((λ a b. absurd (omega arith)), ((λ a b. absurd (omega arith)), ((λ a b. absurd (omega arith)), ((λ a b. absurd (omega arith)), ((λ a b. absurd (omega arith)), ((λ a b. absurd (omega arith)), ((λ a b. absurd (omega arith)), ((λ a b. absurd (omega arith)), ((λ a b. absurd (omega arith)), ((λ a b. refl), ((λ a b. refl), ((λ a b. refl), ((λ a b. refl), λ k a b. absurd (omega arith))))))))))))))))

-- some expressions; one
many_exprs : (f : Forest) → is_empty (drop_many 11 14 (kinds f)) ≡ true → Exprs f
unfolding kinds drop_many is_empty Exprs
many_exprs nil e = tt
many_exprs (node at k v kids rest) e = go (tested (within 11 14 k)) e (λ z. many_exprs rest z)
  where
    go : Tested (within 11 14 k) → is_empty (cond (within 11 14 k) (drop_many 11 14 (kinds rest)) (k ∷ kinds rest)) ≡ true → (is_empty (drop_many 11 14 (kinds rest)) ≡ true → Exprs rest) → (pick k ≡ shut) × Exprs rest
    go (was t) z rec = let r = in_range 11 14 k t in (expr_shut k r.0 r.1, rec (rw t at z))
    go (wasnt t) z rec = absurd (let y : false ≡ true = rw t at z in let x : ◌≡◌ {A = ℕ} 0 1 = cc in omega arith)

one_expr : (f : Forest) → (head_in 11 14 (kinds f) && is_empty (drop_one 11 14 (kinds f))) ≡ true → Exprs f
unfolding kinds head_in drop_one is_empty Exprs
one_expr nil e = tt
one_expr (node at k v kids rest) e = go rest (both_true (within 11 14 k) _ e)
  where
    none_left : (f : Forest) → is_empty (kinds f) ≡ true → Exprs f
    none_left nil z = tt
    none_left (node a j w more next) z = absurd (let x : ◌≡◌ {A = ℕ} 0 1 = cc in omega arith)

    go : (f : Forest) → (within 11 14 k ≡ true) × (is_empty (cond (within 11 14 k) (kinds f) (k ∷ kinds f)) ≡ true) → (pick k ≡ shut) × Exprs f
    go f (t, z) = let r = in_range 11 14 k t in (expr_shut k r.0 r.1, none_left f (rw t at z))

no_kids : (f : Forest) → is_empty (kinds f) ≡ true → f ≡ nil
unfolding kinds is_empty
no_kids nil e = refl
no_kids (node at k v kids rest) e = absurd (let x : ◌≡◌ {A = ℕ} 0 1 = cc in omega arith)

named : (f : Forest) → head_in 8 8 (kinds f) ≡ true → FirstName f
unfolding kinds head_in FirstName
named nil e = tt
named (node at k v kids rest) e = omega (arith, in_range 8 8 k e)

-- by the row of a kind
table_def : (f : Forest) → allowed 6 (kinds f) ≡ true → FirstName f
unfolding allowed row matches
table_def f e = named f (both_true (head_in 8 8 (kinds f)) _ e).0

pub table_name : (f : Forest) → allowed 8 (kinds f) ≡ true → f ≡ nil
unfolding allowed row matches
table_name f e = no_kids f e

pub table_ident : (f : Forest) → allowed 11 (kinds f) ≡ true → f ≡ nil
unfolding allowed row matches
table_ident f e = no_kids f e

table_other : (f : Forest) → allowed 14 (kinds f) ≡ true → Exprs f
unfolding allowed row matches
table_other f e = many_exprs f e

table_type : (f : Forest) → allowed 18 (kinds f) ≡ true → Exprs f
unfolding allowed row matches
table_type f e = one_expr f e

pub at_kind : (k n : ℕ) (f : Forest) → allowed k (kinds f) ≡ true → k ≡ n → allowed n (kinds f) ≡ true
at_kind k n f e q = rw (← q) e

pub tabled_tidy : (f : Forest) → Tabled f → Tidy f
unfolding Tabled Tidy
tabled_tidy nil h = tt
tabled_tidy (node at k v kids rest) h = (
  record {
    low = h.0;
    def = λ q. table_def kids (at_kind k 6 kids h.1 q);
    name = λ q. table_name kids (at_kind k 8 kids h.1 q);
    ident = λ q. table_ident kids (at_kind k 11 kids h.1 q);
    other = λ q. table_other kids (at_kind k 14 kids h.1 q);
    type = λ q. table_type kids (at_kind k 18 kids h.1 q);
  },
  tabled_tidy kids h.2,
  tabled_tidy rest h.3,
)

pub tidy_headed : (f : Forest) → Tidy f → Headed f
unfolding Tidy Headed
tidy_headed nil h = tt
tidy_headed (node at k v kids rest) h = (h.0.def, tidy_headed kids h.1, tidy_headed rest h.2)

pub tabled_headed : (f : Forest) → Tabled f → Headed f
tabled_headed f h = tidy_headed f (tabled_tidy f h)
