-- Numbers 9 to 11, one after the other.
use Rattle.std.proofs.Common.{refl, arith}
use Rattle.base.specs.Says.{says-true, says-false}
use Rattle.base.specs.First.{here, later}
use Rattle.scoping.specs.Scopes.{BadScopes}
use Rattle.scoping.specs.Params.{BadParams}
use Rattle.scoping.proofs.Answers.{shape_sound, nodes_few, sound_held, params_known, depth_said, list_said}
use Rattle.scoping.proofs.Holding.{unset}
use Rattle.scoping.proofs.judge_scopes.Goals as goal

pub deeper-requires : goal.deeper-requires
deeper-requires c = (sound_held (shape_sound c.requires c.nodes-list.ensures), omega arith)

pub returns-then-deeper : goal.returns-then-deeper
returns-then-deeper c = here (says-true c.if-deeper.true (depth_said c.deeper.result c.requires c.nodes-list.ensures c.deeper.ensures)) refl

pub bad_scopes-requires : goal.bad_scopes-requires
bad_scopes-requires c =
    let few' = nodes_few c.requires.header c.nodes-list.ensures in
    (few'.whole, few'.few, unset)

pub bad_params-requires : goal.bad_params-requires
bad_params-requires c = (shape_sound c.requires c.nodes-list.ensures, c.bad_scopes.ensures.1 c.if-bad_scopes.false, params_known c.requires c.nodes-list.ensures)

pub returns-then-bad_params : goal.returns-then-bad_params
returns-then-bad_params c =
    let list = c.nodes-list.ensures in
    later (says-false c.if-deeper.false (depth_said c.deeper.result c.requires list c.deeper.ensures))
    (later (says-false c.if-bad_scopes.false (list_said c.bad_scopes.result BadScopes list c.bad_scopes.ensures.0))
    (here (says-true c.if-bad_params.true (list_said c.bad_params.result BadParams list c.bad_params.ensures)) refl))

pub returns : goal.returns
returns c =
    let list = c.nodes-list.ensures in
    later (says-false c.if-deeper.false (depth_said c.deeper.result c.requires list c.deeper.ensures))
    (later (says-false c.if-bad_scopes.false (list_said c.bad_scopes.result BadScopes list c.bad_scopes.ensures.0))
    (later (says-false c.if-bad_params.false (list_said c.bad_params.result BadParams list c.bad_params.ensures)) refl))
