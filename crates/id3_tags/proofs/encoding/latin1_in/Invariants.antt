-- The text so far has the characters of the bytes so far.
use Rattle.std.proofs.Common.{◌≡◌, take, string_bytes}
use Rattle.std.specs.Str.{encode_utf8_all}
use Rattle.id3_tags.proofs.encoding.latin1_in.Given as goal

abbrev pub invariant-loop-byte : goal.invariant-loop-byte
invariant-loop-byte l = string_bytes l.text ≡ encode_utf8_all (take l.byte-index l.bytes)
