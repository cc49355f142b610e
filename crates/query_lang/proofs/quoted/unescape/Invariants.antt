use Rattle.std.proofs.Common.{◌≡◌, ◌++◌, drop, IsUtf8}
use Rattle.query_lang.specs.Quoted.{unescaped}
use Rattle.query_lang.proofs.quoted.unescape.Given as goal

abbrev pub invariant-bytes : goal.invariant-bytes
invariant-bytes l = record {
  read : unescaped 0 l.body ≡ l.out.items ++ unescaped l.inside (drop l.index l.body);
  utf8 : IsUtf8 (l.out.items ++ drop l.inside (drop l.index l.body));
}
