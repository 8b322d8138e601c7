-- The place behind one more byte.
use Rattle.std.specs.Prelude.{ℕ, ◌+◌, if◌then◌else◌}
use Rattle.bvd_text.specs.declared.cursor.Place.{Place}
use Rattle.bvd_text.specs.Places.{is_line_feed, begins_character}

abbrev pub past_byte : Place → ℕ → Place
past_byte p b = if is_line_feed b then record { line = p.line + 1; column = 1 } else (if begins_character b then record p { column = p.column + 1 } else p)
