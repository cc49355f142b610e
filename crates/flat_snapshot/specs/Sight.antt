-- Internal. What a page says of a text, and of its mark.
use Rattle.std.specs.Prelude.{ℕ, Bool, List, map, Result, Ok, Err}
use Rattle.std.specs.List.{list_all, range_with_len}
use Rattle.q_base.specs.Positions.{first_hash, second_hash, position, positions_of}
use Rattle.query_normal.specs.Pages.{Page, is_set}
use Rattle.flat_snapshot.specs.declared.read.PageRefusal.{PageRefusal}
use Rattle.flat_snapshot.specs.declared.read.PageHead.{PageHead}
use Rattle.flat_snapshot.specs.PageText.{page_with}
use Rattle.flat_snapshot.specs.declared.sight.Sight.{Sight}
use Rattle.flat_snapshot.specs.declared.sight.KeyMark.{KeyMark}

-- the page of a head and the bytes behind it
abbrev pub head_page : PageHead → List ℕ → Page
head_page head bytes = page_with head.log2_bits head.hashes head.front head.commits head.moment bytes

-- the page's front and moment, and whether all bits of the text are set
abbrev pub sight_of : Page → List ℕ → Sight
sight_of page text = record {
  front = page.front;
  moment = page.moment;
  is_held = list_all (is_set page) (positions_of text page.log2_bits page.hashes);
}

-- the same of bytes that were read as a page, or the reason why they are none
abbrev pub sight_in : List ℕ → Result Page PageRefusal → Result Sight PageRefusal
sight_in text (Ok page) = Ok (sight_of page text)
sight_in text (Err refusal) = Err refusal

-- the mark of a text: the two hashes that its positions follow from
abbrev pub mark_of : List ℕ → KeyMark
mark_of text = record { first = first_hash text; second = second_hash text }

-- the positions of a mark, one for each hash
abbrev pub marked_positions : KeyMark → ℕ → ℕ → List ℕ
marked_positions mark log2_bits hashes = map (position log2_bits mark.first mark.second) (range_with_len 0 hashes)

-- the page's front and moment, and whether all bits of the mark are set
abbrev pub marked_sight : Page → KeyMark → Sight
marked_sight page mark = record {
  front = page.front;
  moment = page.moment;
  is_held = list_all (is_set page) (marked_positions mark page.log2_bits page.hashes);
}
