-- Numbers 5 and 6, one after the other.
use Rattle.std.proofs.Common.{refl, rules}
use Rattle.base.specs.Says.{says-true, says-false}
use Rattle.base.specs.First.{here, later}
use Rattle.nodefile.specs.Layout.{entries_of, globals_of}
use Rattle.nodefile.specs.Lists.{entry_name, global_name}
use Rattle.names.specs.Lists.{bad_entry, bad_global}
use Rattle.names.proofs.Lines.{no_lists}
use Rattle.names.proofs.judge_names.Goals as goal

pub returns-then-bad_names : goal.returns-then-bad_names
returns-then-bad_names c =
    let five = rw (c.name_count-known.ensures.is, c.names-names.ensures, c.pool-pool.ensures) at c.bad_names.ensures in
    here (says-true c.if-bad_names.true five) refl

pub returns-then-bad_list : goal.returns-then-bad_list
returns-then-bad_list c =
    let five = rw (c.name_count-known.ensures.is, c.names-names.ensures, c.pool-pool.ensures) at c.bad_names.ensures in
    let entry = rw (c.name_count-known.ensures.is, c.entry_count-entry_count.ensures.is) at (c.bad_list.ensures (entry_name (entries_of c.args.file.now)) (λ k r h p. search rules)) in
    later (says-false c.if-bad_names.false five) (here (bad_entry (says-true c.if-bad_list.true entry)) refl)

pub returns-then-bad_list-2 : goal.returns-then-bad_list-2
returns-then-bad_list-2 c =
    let five = rw (c.name_count-known.ensures.is, c.names-names.ensures, c.pool-pool.ensures) at c.bad_names.ensures in
    let global = rw (c.name_count-known.ensures.is, c.global_count-global_count.ensures.is) at (c.bad_list-2.ensures (global_name (globals_of c.args.file.now)) (λ k r h p. search rules)) in
    later (says-false c.if-bad_names.false five) (here (bad_global (says-true c.if-bad_list-2.true global)) refl)

pub returns : goal.returns
returns c =
    let five = rw (c.name_count-known.ensures.is, c.names-names.ensures, c.pool-pool.ensures) at c.bad_names.ensures in
    let entry = rw (c.name_count-known.ensures.is, c.entry_count-entry_count.ensures.is) at (c.bad_list.ensures (entry_name (entries_of c.args.file.now)) (λ k r h p. search rules)) in
    let global = rw (c.name_count-known.ensures.is, c.global_count-global_count.ensures.is) at (c.bad_list-2.ensures (global_name (globals_of c.args.file.now)) (λ k r h p. search rules)) in
    later (says-false c.if-bad_names.false five) (later (no_lists (says-false c.if-bad_list.false entry) (says-false c.if-bad_list-2.false global)) refl)
