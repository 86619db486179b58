-- Document 01's listing in full, from its file and the buffers that hold its records. By computation.
use Rattle.std.specs.Prelude.{ℕ, ◌≡◌, refl, List, [], ◌∷◌, ◌++◌, map, length}
use Rattle.base.specs.UpTo.{tally, up_to}
use Rattle.bits.specs.Field.{bit_of, field_of}
use Rattle.bits.specs.Pack.{pack, bytes_of}
use Rattle.lexical.specs.Lists.{first}
use Rattle.lexical.specs.Tree.{way, is_fn}
use Rattle.lexical.specs.Records.{Records}
use Rattle.lexical.proofs.Examples.{listing_records}
use Rattle.answer.specs.declared.Answer.{Answer}
use Rattle.answer.specs.Buffers.{Buffers, buffers}
use Rattle.answer.specs.Records.{binding_of, entry_of, pair_of, copy_of}
use Rattle.scope.specs.Nodes.{of_node, answer_of}
use Rattle.text.specs.Bytes.{ascii, digits, decimal, joined}
use Rattle.lines.specs.Lines.{name_text, refusal_line, counts_line, source_text, binding_line, entry_line, slot_name, scope_line, copy_line, resolution_text, ident_line, error_line}
use Rattle.listing.specs.Text.{text_of}

-- a node: kind, size, value
node : ℕ → ℕ → ℕ → List ℕ
node kind size value = bytes_of 8 (pack ((5, kind) ∷ (3, 0) ∷ (16, size) ∷ (16, value) ∷ (24, 0) ∷ []))

-- a name: offset, length
name : ℕ → ℕ → List ℕ
name offset len = bytes_of 3 (pack ((16, offset) ∷ (8, len) ∷ []))

-- `def f(a): return lambda b: a + b + _k`: 12 nodes, 4 names, 5 bytes of pool
bytes : List ℕ
bytes = joined (
    bytes_of 12 (pack ((4, 1) ∷ (1, 0) ∷ (3, 0) ∷ (16, 12) ∷ (16, 4) ∷ (16, 0) ∷ (16, 0) ∷ (24, 5) ∷ []))
    ∷ node 6 12 1 ∷ node 8 1 0 ∷ node 17 2 0 ∷ node 8 1 1 ∷ node 1 8 0 ∷ node 12 7 2
    ∷ node 17 2 0 ∷ node 8 1 2 ∷ node 14 4 0 ∷ node 11 1 1 ∷ node 11 1 2 ∷ node 11 1 3
    ∷ name 0 1 ∷ name 1 1 ∷ name 2 1 ∷ name 3 2
    ∷ ascii "fab_k" ∷ [])

-- the counts, and the buffers, of the records that `lexical` has for it
counts : Records → Answer
counts r = record {
  number = 0;
  bindings = length r.bindings;
  «module» = length r.entries;
  slots = length r.slots;
  copies = length r.copies;
  errors = length r.errors;
}

held : Records → Buffers
held r = buffers
    (up_to (λ i. answer_of (first (of_node i) (r.names ++ r.answers))) 12)
    (map binding_of r.bindings) (map entry_of r.entries) (map pair_of r.scopes)
    (map pair_of r.slots) (map copy_of r.copies) (map pair_of r.errors)

listing : text_of bytes (counts listing_records) (held listing_records) ≡ joined (
    ascii "answer 0 bindings 3 module 1 slots 3 copies 1 errors 1\n"
    ∷ ascii "B 0 f M 0 public once free 1\n"
    ∷ ascii "B 1 a L 0 public once captured 3\n"
    ∷ ascii "B 2 b L 0 public once free 7\n"
    ∷ ascii "M 0 f public\n"
    ∷ ascii "S 0 0:\n"
    ∷ ascii "S 1 1: a\n"
    ∷ ascii "S 2 1: b a\n"
    ∷ ascii "C 2 0 1\n"
    ∷ ascii "I 9 L 1 1\n"
    ∷ ascii "I 10 L 0 2\n"
    ∷ ascii "E 11 1 _k\n" ∷ [])
unfolding node name bytes counts held listing_records tally up_to bit_of field_of first of_node answer_of digits decimal name_text refusal_line counts_line source_text binding_line entry_line slot_name scope_line copy_line resolution_text ident_line error_line way is_fn text_of
listing = refl

refusal : text_of bytes (record { number = 12; bindings = 0; «module» = 0; slots = 0; copies = 0; errors = 0 }) (held listing_records) ≡ ascii "answer 12\n"
unfolding digits decimal refusal_line text_of
refusal = refl
