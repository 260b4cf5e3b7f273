-- Machines: one call on an image and a record.
use Rattle.std.specs.Prelude.{List, ℕ}
use Rattle.frame.specs.declared.Host.{Host}
use Rattle.board.specs.declared.Record.{Record}
use Rattle.board.specs.Record.{Out}
use Rattle.board.specs.Step.{step_on}
use Rattle.board.specs.Mount.{mount_on, format_on}
use Rattle.board.specs.Queue.{asking, request_on}

-- "queue requests (any host number, message and reply buffer), steps, mounts and formats"
pub data Call : Type 0 where
  request : Host → List ℕ → List ℕ → Call  -- host, message, reply
  step : Call
  mount : Call
  format : Call

-- anything that answers a call on an image and a record: what the statements are about, for one number of blocks
abbrev pub Machine : Type 0
Machine = List ℕ → Record → Call → Out

-- document 02, K14: "N given by the caller", with every call
abbrev pub Family : Type 0
Family = ℕ → Machine

-- the papers'. "Mount and format take no record."
abbrev pub exec : Family
exec N img r (request h m reply) = request_on (asking N img r h m reply)
exec N img r step = step_on N img r
exec N img r mount = mount_on N img
exec N img r format = format_on N img
