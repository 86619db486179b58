-- Every part of the state only grows: if a buffer is too short at some point, it is at the end. For code that stops there.
use Rattle.std.specs.Prelude.{List, [], ◌∷◌, map, Bool, true, ℕ, ◌≤◌, length}
use Rattle.std.proofs.Common.{arith, length-append}
use Rattle.lexical.specs.Tree.{Forest, Way, plain}
use Rattle.lexical.specs.Binders.{Names, Target, Var}
use Rattle.lexical.specs.Module.{Outer, File, outer_of}
use Rattle.lexical.specs.State.{Binding, Found, St, Row, Ctx}
use Rattle.lexical.specs.Block.{fresh, slot_for, new, add, name_of, naming, block}
use Rattle.lexical.specs.First.{start}
use Rattle.lexical.specs.Second.{declare, rows, second}
use Rattle.lexical.specs.Third.{copy_in, bring, logged, walk, outermost, resolved}
use Rattle.lexical.proofs.Theory.Every.{Kept, every-block, every-bring, every-declare, every_walk}

pub record Longer (st st' : St) : Type 0 where
  pub made : length st.made ≤ length st'.made
  pub named : length st.named ≤ length st'.named
  pub slots : length st.slots ≤ length st'.slots
  pub copies : length st.copies ≤ length st'.copies
  pub log : length st.log ≤ length st'.log

pub longer_refl : (st : St) → Longer st st
longer_refl st = record { made = omega arith; named = omega arith; slots = omega arith; copies = omega arith; log = omega arith }

pub longer_trans : {a b c : St} → Longer a b → Longer b c → Longer a c
longer_trans h k = record { made = omega arith; named = omega arith; slots = omega arith; copies = omega arith; log = omega arith }

longer_add : (s : ℕ) (v : Var) (st : St) → Longer st (add s (new s v st) st)
unfolding add
longer_add s v st = record {
  made = omega (arith, length-append st.made (new s v st ∷ []));
  named = omega arith;
  slots = omega (arith, length-append st.slots (slot_for s (new s v st).slot (new s v st) ∷ []));
  copies = omega arith;
  log = omega arith;
}

longer_name : (ts : List Target) (bs : List Binding) (st : St) → Longer st (naming ts bs st)
unfolding naming
longer_name ts bs st = record { made = omega arith; named = omega (arith, length-append st.named (map (name_of bs) ts)); slots = omega arith; copies = omega arith; log = omega arith }

longer_copy : (s : ℕ) (b : Binding) (r : ℕ × St) → Longer r.1 (copy_in s b r).1
unfolding copy_in
longer_copy s b r = record {
  made = omega arith;
  named = omega arith;
  slots = omega (arith, length-append r.1.slots (slot_for s (fresh s r.1) b ∷ []));
  copies = omega (arith, length-append r.1.copies (record { scope = s; parent = r.0; child = fresh s r.1; id = b.id } ∷ []));
  log = omega arith;
}

longer_log : (at n : ℕ) (ss : List ℕ) (f : Found) (st : St) → Longer st (logged at n ss f st)
unfolding logged
longer_log at n ss f st = record {
  made = omega arith;
  named = omega arith;
  slots = omega arith;
  copies = omega arith;
  log = omega (arith, length-append st.log (record { node = at; name = n; scopes = ss; found = f } ∷ []));
}

since : (st : St) → Kept (Longer st)
since st₀ = record {
  adds = λ s v st h. longer_trans h (longer_add s v st);
  names = λ ts bs st h. longer_trans h (longer_name ts bs st);
  copies = λ s b r h. longer_trans h (longer_copy s b r);
  logs = λ at n ss f st h. longer_trans h (longer_log at n ss f st);
}

pub block_longer : (s : ℕ) (ts : List Target) (st : St) → Longer st (block s ts st).1
block_longer s ts st = every-block (Longer st) (since st) s ts st (longer_refl st)

pub bring_longer : (ss : List ℕ) (b : Binding) (st : St) → Longer st (bring ss b st).1
bring_longer ss b st = every-bring (Longer st) (since st) ss b st (longer_refl st)

pub declare_longer : (N : Names) (f : Forest) (x : List Row × St) → Longer x.1 (declare N f x).1
declare_longer N f x = every-declare (Longer x.1) (since x.1) N f x (longer_refl x.1)

pub walk_longer : (N : Names) (D : ℕ → List Binding) (out : ℕ → Outer) (f : Forest) (w : Way) (s : ℕ) (ts : List Target) (b : Bool) (c : Ctx) (st : St) → Longer st (walk N D out f w s ts b c st)
walk_longer N D out f w s ts b c st = every_walk (Longer st) (since st) N D out f w s ts b c st (longer_refl st)

pub second_longer : (F : File) → Longer (start F) (second F).1
unfolding second
second_longer F = declare_longer F.names F.root ([], start F)

pub resolved_longer : (F : File) → Longer (second F).1 (resolved F)
unfolding resolved
resolved_longer F = walk_longer F.names (rows (second F).0) (outer_of F) F.root plain 0 [] true outermost (second F).1
