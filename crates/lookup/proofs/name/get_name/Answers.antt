-- `get_name` meets its contract, by the three cases of Names.
use Rattle.lookup.proofs.Names.{to_local, name_local, to_module, name_module, name_global}
use Rattle.lookup.proofs.name.get_name.Goals as goal

pub get_local-requires : goal.get_local-requires
get_local-requires c = (c.requires.0, to_local c.in-Some.ensures.0 c.requires.1)

pub returns-in-Some : goal.returns-in-Some
returns-in-Some c = name_local c.in-Some.ensures.0 c.get_local.ensures

pub get_module-requires : goal.get_module-requires
get_module-requires c = (c.requires.0.binds, to_module c.in_default.ensures.0 c.in-Some-module_binding.ensures.0 c.requires.1)

pub returns-in-Some-module_binding : goal.returns-in-Some-module_binding
returns-in-Some-module_binding c = name_module c.in_default.ensures.0 c.in-Some-module_binding.ensures.0 c.get_module.ensures

pub returns : goal.returns
returns c = name_global c.in_default.ensures.0 c.in_default-module_binding.ensures.0 c.get_global-res.ensures
