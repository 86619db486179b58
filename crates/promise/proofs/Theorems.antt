-- What `resolve` promises of any bytes bs and any buffers b, off its contract `Resolves bs b a b'`: a is the answer, b' the buffers afterwards. The words are in Shown and Said; the second part is Whole; the proofs stand in Laws.
--     demand 1   none_true, number-smallest, resolves-one                          (that every refusal is all zeros is a clause of `Resolves`)
--     demand 2   T1, T1-errors, T1-names, T1-others, T1-captured, reads-back       each node's record, each error and each binding against the definition of what a name means
--     demand 3   T2, T3, T3-met                                                    the copies lead from an answer to the variable, and no scheme copies less
use Rattle.std.specs.Prelude.{ℕ, ◌<◌, ◌≤◌, ◌≡◌, length, get_or}
use Rattle.std.proofs.Common.{sym, ◌∙◌, arith}
use Rattle.std.proofs.Math.Path.{subst}
use mathlib.Core.List.{List, [], ◌∷◌, map}
use Rattle.std.proofs.Math.Option.{some}
use Rattle.base.specs.First.{NoneHolds, first_one, none_first}
use Rattle.base.specs.Smallest.{Smallest, first_smallest}
use Rattle.lexical.specs.Tree.{Forest}
use Rattle.lexical.specs.Module.{File, outer_of}
use Rattle.lexical.specs.Meaning.{Around}
use Rattle.lexical.specs.Third.{resolved}
use Rattle.lexical.specs.Records.{records}
use Rattle.lexical.specs.Claims.{sites_of, told, told_errors}
use Rattle.lexical.specs.Schemes.{copies_into, pairs}
use Rattle.lexical.specs.Labels.{Labelled, ServesTree}
use Rattle.lexical.proofs.Theorems as lexical
use Rattle.lexical.proofs.Whole as whole
use Rattle.nodefile.specs.Layout.{node_count, nodes_of}
use Rattle.nodefile.specs.Reads.{Reads}
use Rattle.nodefile.specs.FileOf.{file_of}
use Rattle.nodefile.specs.Listed.{kind_at, value_at}
use Rattle.answer.specs.declared.Answer.{Answer}
use Rattle.answer.specs.Buffers.{Buffers, Front}
use Rattle.answer.specs.Records.{pair_of}
use Rattle.scope.specs.Answer.{resolving, Given, Resolves}
use Rattle.scope.specs.Ready.{Ready}
use Rattle.promise.specs.Shown.{node_fields, nodes_around, Told, CapturedShown, Homeward, lists, AllBack}
use Rattle.promise.specs.Said.{copies_shown, NameSaid}
use Rattle.scope.specs.Laws.Accepts.{judged_tree}
use Rattle.scope.specs.Laws.Readies.{ready_scoped, ready_distinct, ready_length}
use Rattle.promise.proofs.Laws.Sites.{ident_event}
use Rattle.scope.specs.Laws.Zero.{zero_accepted, zero_ready, zero_slots}
use Rattle.scope.specs.Laws.One.{same_answer}
use Rattle.promise.proofs.Laws.Records.{back, copies_into_lem}
use Rattle.promise.proofs.Laws.Told.{ident_shown, homeward}
use Rattle.promise.proofs.Laws.Named.{other_empty}
use Rattle.promise.proofs.Laws.Shows.{pairs_shown}
use Rattle.promise.proofs.Laws.Saying.{name_said}
use Rattle.promise.proofs.Laws.Captured.{captured_shown}

-- A file and buffers of which no condition is true get 0: nothing is refused without its cause.
pub none_true : {bs : List ℕ} {b b' : Buffers} {a : Answer} → Resolves bs b a b' → NoneHolds (resolving bs b) → a.number ≡ 0
none_true {bs} {b} r none = first_one (resolving bs b) r.number (none_first (resolving bs b) none)

-- The number is the smallest whose condition holds, as document 01 says: the rows' numbers stand in rising order.
pub number_smallest : {bs : List ℕ} {b b' : Buffers} {a : Answer} → Resolves bs b a b' → Smallest (resolving bs b) a.number
number_smallest {bs} {b} {b'} {a} r = first_smallest (resolving bs b) a.number tt r.number

-- No second answer fits, in its number, its counts or any element of any buffer.
pub resolves_one : {bs : List ℕ} {b b₁ b₂ : Buffers} {a c : Answer} → Resolves bs b a b₁ → Resolves bs b c b₂ → (a ≡ c) × (b₁ ≡ b₂)
resolves_one r s = same_answer r s

-- An accepted file.
module _ {bs : List ℕ} {b b' : Buffers} {a : Answer} (r : Resolves bs b a b') (z : a.number ≡ 0) where
  -- Its nodes hold a tree, and no second one (nodefile's `reads_one`).
  pub a_tree : (root : Forest) × Reads (nodes_of bs) 0 root
  a_tree = judged_tree (zero_accepted r z)

  -- That tree, and the file that the bytes stand for with it.
  module _ (root : Forest) (t : Reads (nodes_of bs) 0 root) where
    abbrev F : File
    F = file_of bs root

    ready : Ready bs root
    ready = zero_ready r z root t

    few : length (resolved F).slots ≤ 4096
    few = zero_slots r z root t

    given : Given F (node_count bs) b a b'
    given = r.given z root t

    -- T1. Every Ident of the node list: the nodes around it decide its meaning, and its record, or its error, is what that meaning says.
    pub T1 : (x : ℕ) → x < node_count bs → kind_at (nodes_of bs) x ≡ 11 → Told F a b' x (value_at (nodes_of bs) x)
    T1 x h k =
        let l = ident_event F (ready_scoped ready) (nodes_of bs) t x (omega (arith, ready_length ready)) k in
        record { up = l.up; above = l.above; shown = ident_shown ready few given x (value_at (nodes_of bs) x) l }

    -- The errors are those of the Idents' meanings, in the order of resolving, and no others.
    pub T1_errors : Front b'.errors (length b.errors) (map pair_of (told_errors (map (told (outer_of F)) (sites_of F))))
    unfolding records
    T1_errors = subst (λ (xs : List (List ℕ)). Front b'.errors (length b.errors) (map pair_of xs)) (lexical.T1_errors F (ready_scoped ready)) given.errors_hold

    -- Every Name of the node list: the nodes around it say which block it belongs to. Its record has class 1 in the module's block and class 2 in any other, and the slot and the number of the binding that its block makes of its name.
    pub T1_names : (x : ℕ) → x < node_count bs → kind_at (nodes_of bs) x ≡ 8 → NameSaid F a b' x (value_at (nodes_of bs) x)
    T1_names = name_said ready few given

    -- Every other node's record is 0.
    pub T1_others : (x : ℕ) → x < node_count bs → (kind_at (nodes_of bs) x ≡ 8 → ⊥) → (kind_at (nodes_of bs) x ≡ 11 → ⊥) → get_or b'.nodes x 0 ≡ 0
    T1_others = other_empty ready few given

    -- Every binding is marked captured exactly when some Ident captures it.
    pub T1_captured : (k : ℕ) → k < a.bindings → CapturedShown F b' k
    T1_captured = captured_shown ready few given

    -- Nothing is lost in the packing: every record of every list, taken apart, is the row that the walks made.
    pub reads_back : AllBack (lists (records F) b')
    reads_back = back ready few given

    -- T2. Every Ident that is answered by a local slot k: `follow::follow`, over the copy records and the scopes around the Ident, leads from k to the slot of the local that the Ident means, in the scope which that belongs to.
    pub T2 : (x : ℕ) → x < node_count bs → kind_at (nodes_of bs) x ≡ 11 → (k i : ℕ) → node_fields b' x ≡ 2 ∷ k ∷ i ∷ [] → (up : List Around) → nodes_around F x ≡ some up → Homeward a b' (value_at (nodes_of bs) x) up k i
    T2 x h n k i e up q = let p = T1 x h n in let y : p.up ≡ up = let w : some p.up ≡ some up = sym p.above ∙ q in cc in
        subst (λ (u : List Around). Homeward a b' (value_at (nodes_of bs) x) u k i) y (homeward F a b' (record { node = x; name = value_at (nodes_of bs) x; above = p.up }) k i e p.shown)

    -- T3. Any scheme of copies that has every local at hand where an Ident means it, locals told by their scope and Name, has in each scope at least as many copies as the records have;
    pub T3 : (S : Labelled) → ServesTree F S → (s : ℕ) → copies_into s (copies_shown a b') ≤ length (S.copies s)
    T3 S h s = omega (arith, copies_into_lem ready few given s, whole.T3_tree F (ready_scoped ready) (ready_distinct ready) S h s)

    -- and the records are such a scheme, pair for pair.
    pub T3_met : (S : Labelled) × ServesTree F S × ((s : ℕ) → S.copies s ≡ pairs s (copies_shown a b'))
    T3_met = let (S, h, e) = whole.T3_met F (ready_scoped ready) in (S, h, λ s. e s ∙ sym (pairs_shown ready few given s))
