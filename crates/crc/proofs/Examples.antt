-- The published check value, computed.
use mathlib.Core.Path.{refl}
use Rattle.crc.specs.Crc.{shifted32, crc32_from}
use Rattle.crc.specs.Examples.{Examples}

pub examples : Examples
unfolding crc32_from shifted32
examples = record { check_value = refl }
