-- The buffers of a file's `Records`: before it is resolved, and after.
use Rattle.std.specs.Prelude.{replicate}
use Rattle.answer.specs.Buffers.{Buffers, buffers}
use Rattle.scope.specs.declared.Records.{Records}

-- of the full lengths, and all zero
abbrev pub fresh : Buffers
fresh = buffers (replicate 2048 0) (replicate 2304 0) (replicate 2304 0) (replicate 256 0) (replicate 4096 0) (replicate 4096 0) (replicate 2048 0)

abbrev pub buffers_of : Records → Buffers
buffers_of r = buffers r.nodes r.bindings r.«module» r.scopes r.slots r.copies r.errors
