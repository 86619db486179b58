-- `scope::resolve_accepted` meets its contract: the walks' working lists are copied out, or number 12 is given.
use Rattle.std.proofs.Common.{◌≡◌, sym, rules}
use lib.ListN.{length, replicate, drop}
use mathlib.Core.List.{◌++◌}
use Rattle.scope.proofs.Outcome.{pre_walk, too_many, entries_made, made_length, pre_entries, all_given}
use Rattle.scope.proofs.resolve_accepted.Goals as goal

pub walk-requires : goal.walk-requires
walk-requires c = pre_walk c.requires

pub slice_bounds-put_entries-end : goal.slice_bounds-put_entries-end
slice_bounds-put_entries-end c = entries_made c.requires _ c.walk.auto.binds c.in-Ok.ensures c.node_count-n.ensures.is

pub slice_bounds-put_entries-end-in-Ok : goal.slice_bounds-put_entries-end-in-Ok
slice_bounds-put_entries-end-in-Ok c = sym (made_length c.requires _ c.walk.auto.binds c.in-Ok.ensures c.node_count-n.ensures.is)

pub put_entries-requires : goal.put_entries-requires
put_entries-requires c = pre_entries c.requires _ c.walk.auto.binds c.in-Ok.ensures c.node_count-n.ensures.is

pub returns-in-Err : goal.returns-in-Err
returns-in-Err c =
    let e : c.fill.new.self ≡ replicate (length (c.walk.new.binds ++ drop 2304 c.args.bindings.now)) 0 = search rules in
    too_many c.requires _ c.walk.auto.binds c.in-Err.ensures e c.refused.ensures

pub returns-in-Ok : goal.returns-in-Ok
returns-in-Ok c = all_given c.requires _ c.walk.auto.binds c.in-Ok.ensures c.node_count-n.ensures.is c.copy_out.ensures c.put_entries.ensures
