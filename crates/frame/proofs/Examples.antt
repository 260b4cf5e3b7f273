-- The frames of bench rows b and c, and the frame closed in place, computed.
use mathlib.Core.Path.{refl}
use Rattle.crc.specs.Crc as crc
use Rattle.flash.specs.Bytes as bytes
use Rattle.frame.specs.Reader as reader
use Rattle.frame.specs.Examples.{Examples}

pub examples : Examples
unfolding crc.crc32_from crc.shifted32 bytes.all_ff reader.match reader.host_layout reader.layout_of reader.read_frame
examples = record {
  row-b = refl;
  row-c = refl;
  longest = refl;
  longest_second = refl;
  row_b_second = refl;
  row_c_second = refl;
  torn-commit = refl;
  kind_cleared = refl;
  closed_commit = refl;
  finish-first = refl;
  high_left = refl;
  high_wrong = refl;
  seven = refl;
  seven_first = refl;
}
