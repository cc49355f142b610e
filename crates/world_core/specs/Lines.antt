-- Internal. The line of a read.
use Rattle.std.specs.Prelude.{ℕ, List, length, codes, Option, Some, None}
use Rattle.hex.specs.Hex.{encode_lower}
use Rattle.sha2.specs.Sha256.{sha256}
use Rattle.query_normal.specs.declared.key.KeyShape.{KeyShape}
use Rattle.client_session.specs.declared.read_out.Body.{Body}
use Rattle.client_session.specs.declared.read_out.Body.TheVariants.{Document, List as listed, Absent}
use Rattle.client_session.specs.declared.read_out.ReadOut.{ReadOut}
use Rattle.world_core.specs.declared.line.ReadLine.{ReadLine}

-- the bytes of a body, where there is one
abbrev pub bytes_of : Body → Option (List ℕ)
bytes_of (Document version text) = Some text
bytes_of (listed text) = Some text
bytes_of Absent = None

-- the length of a body
abbrev pub length_with : Option (List ℕ) → ℕ
length_with None = 0
length_with (Some bytes) = length bytes

-- the digest of a body (FIPS 180-4), in lower-case hexadecimal
abbrev pub digest_with : Option (List ℕ) → List ℕ
digest_with None = codes "-"
digest_with (Some bytes) = encode_lower (sha256 bytes)

-- the line of what a step's read gave
abbrev pub line_of : ℕ → ℕ → KeyShape → ReadOut → ReadLine
line_of step client key out = record {
  step = step;
  client = client;
  commit = out.commit;
  way = out.way;
  length = length_with (bytes_of out.body);
  digest = digest_with (bytes_of out.body);
  key = key;
}
