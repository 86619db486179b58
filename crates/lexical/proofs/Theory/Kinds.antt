-- The two tables of kinds, `way` and `pick`, by their numbers: one look at all nineteen rows.
use Rattle.std.proofs.Common.{sym, ◌∙◌, arith}
use Rattle.std.specs.Prelude.{◌≡◌, refl, false, ◌||◌, ◌≤◌, ℕ, zero, suc, ◌<◌, eqb}
use Rattle.lexical.specs.Lists.{eqb-not}
use Rattle.lexical.specs.Tree.{plain, way, is_look, is_fn, is_compr, Pick, through, shut, head, name, loop, load, param, pick, is_name}

-- a law of numbers, by its first n cases and the rest
abbrev pub Cases : ℕ → (ℕ → Type 0) → Type 0
Cases zero P = (k : ℕ) → P k
Cases (suc n) P = P 0 × Cases n (λ k. P (suc k))

pub by_cases : (n : ℕ) (P : ℕ → Type 0) → Cases n P → (k : ℕ) → P k
by_cases zero P h k = h k
by_cases (suc n) P h zero = h.0
by_cases (suc n) P h (suc k) = by_cases n (λ k. P (suc k)) h.1 k

-- the numbers past the table
abbrev beyond : ℕ → ℕ
beyond k = suc (suc (suc (suc (suc (suc (suc (suc (suc (suc (suc (suc (suc (suc (suc (suc (suc (suc (suc k))))))))))))))))))

far : (k n : ℕ) → n ≤ 18 → eqb (beyond k) n ≡ false
far k n h = eqb-not (beyond k) n (λ e. omega arith)

neither : (k m n : ℕ) → (k ≡ m → ⊥) → (k ≡ n → ⊥) → (eqb k m || eqb k n) ≡ false
neither k m n a b = rw (eqb-not k m a, eqb-not k n b) refl

pub fn_kind : (k : ℕ) → is_fn (way k) ≡ (eqb k 6 || eqb k 12)
unfolding way is_fn
fn_kind = by_cases 19 (λ k. is_fn (way k) ≡ (eqb k 6 || eqb k 12)) (refl, (refl, (refl, (refl, (refl, (refl, (refl, (refl, (refl, (refl, (refl, (refl, (refl, (refl, (refl, (refl, (refl, (refl, (refl, λ k. sym (neither (beyond k) 6 12 (λ e. omega arith) (λ e. omega arith)))))))))))))))))))))

pub compr_kind : (k : ℕ) → is_compr (way k) ≡ eqb k 13
unfolding way is_compr
compr_kind = by_cases 19 (λ k. is_compr (way k) ≡ eqb k 13) (refl, (refl, (refl, (refl, (refl, (refl, (refl, (refl, (refl, (refl, (refl, (refl, (refl, (refl, (refl, (refl, (refl, (refl, (refl, λ k. sym (far k 13 (omega arith)))))))))))))))))))))

pub look_kind : (k : ℕ) → is_look (way k) ≡ eqb k 11
unfolding way is_look
look_kind = by_cases 19 (λ k. is_look (way k) ≡ eqb k 11) (refl, (refl, (refl, (refl, (refl, (refl, (refl, (refl, (refl, (refl, (refl, (refl, (refl, (refl, (refl, (refl, (refl, (refl, (refl, λ k. sym (far k 11 (omega arith)))))))))))))))))))))

pub name_kind : (k : ℕ) → is_name (pick k) ≡ eqb k 8
unfolding pick is_name
name_kind = by_cases 19 (λ k. is_name (pick k) ≡ eqb k 8) (refl, (refl, (refl, (refl, (refl, (refl, (refl, (refl, (refl, (refl, (refl, (refl, (refl, (refl, (refl, (refl, (refl, (refl, (refl, λ k. sym (far k 8 (omega arith)))))))))))))))))))))

-- the kinds that are no function, no comprehension, no Ident, no Name
pub no_fn : (k : ℕ) → (k ≡ 6 → ⊥) → (k ≡ 12 → ⊥) → is_fn (way k) ≡ false
no_fn k a b = fn_kind k ∙ neither k 6 12 a b

pub no_compr : (k : ℕ) → (k ≡ 13 → ⊥) → is_compr (way k) ≡ false
no_compr k a = compr_kind k ∙ eqb-not k 13 a

pub no_look : (k : ℕ) → (k ≡ 11 → ⊥) → is_look (way k) ≡ false
no_look k a = look_kind k ∙ eqb-not k 11 a

pub no_name : (k : ℕ) → (k ≡ 8 → ⊥) → is_name (pick k) ≡ false
no_name k a = name_kind k ∙ eqb-not k 8 a

-- goes through to its children's targets, marked or not
unfoldable pub Simple : Pick → Type 0
Simple through = Unit {0}
Simple shut = ⊥
Simple head = ⊥
Simple name = ⊥
Simple loop = Unit {0}
Simple load = Unit {0}
Simple param = Unit {0}

-- eight kinds that stand out, the others, and the numbers past the table
pub data Sort (k : ℕ) : Type 0 where
  def6 : k ≡ 6 → Sort k
  name8 : k ≡ 8 → Sort k
  ident11 : k ≡ 11 → Sort k
  lambda12 : k ≡ 12 → Sort k
  compr13 : k ≡ 13 → Sort k
  other14 : k ≡ 14 → Sort k
  clause15 : k ≡ 15 → Sort k
  type18 : k ≡ 18 → Sort k
  simple : way k ≡ plain → Simple (pick k) → Sort k
  past : 18 < k → way k ≡ plain → pick k ≡ shut → Sort k

pub sort : (k : ℕ) → Sort k
unfolding way pick Simple
sort = by_cases 19 Sort (simple refl tt, (simple refl tt, (simple refl tt, (simple refl tt, (simple refl tt, (simple refl tt, (def6 refl, (simple refl tt, (name8 refl, (simple refl tt, (simple refl tt, (ident11 refl, (lambda12 refl, (compr13 refl, (other14 refl, (clause15 refl, (simple refl tt, (simple refl tt, (type18 refl, λ k. past (omega arith) refl refl)))))))))))))))))))
