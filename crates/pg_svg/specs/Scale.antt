-- Where things stand in the picture, in pixels.
use Rattle.std.specs.Prelude.{ℕ, ◌+◌, ◌-◌, ◌*◌, max, nat_lt, if◌then◌else◌}
use Rattle.pg_picture.specs.declared.mark.Leg.{Leg}
use Rattle.pg_picture.specs.declared.mark.LegEnd.{LegEnd}
use Rattle.pg_picture.specs.declared.mark.LegEnd.TheVariants as ending
use Rattle.pg_picture.specs.declared.sketch.Sketch.{Sketch}
use Rattle.pg_svg.specs.Label.{widest_label, widest_note}
use Rattle.pg_svg.specs.declared.scale.Scale.{Scale}

-- from half a column to the next half: the widest label has room between two servers
abbrev pub half_of : Sketch → ℕ
half_of s = 14 + 3 * widest_label 8 s.legs

-- the column of this server. Column 0 is that of events at no server
abbrev pub x_of : ℕ → ℕ → ℕ
x_of half server = 60 + 2 * (half * server)

-- in front of a receiver's column, as seen from the sender's
abbrev pub short_of : ℕ → ℕ → ℕ → ℕ
short_of half from to =
    if nat_lt from to then x_of half (to - 1) + half else x_of half to + half

abbrev pub y_of : ℕ → ℕ
y_of height = 130 + 13 * height

-- where notes begin: right of all columns
abbrev pub notes_of : Sketch → ℕ
notes_of s = x_of (half_of s) s.servers + 2 * half_of s

abbrev pub scale_of : Sketch → Scale
scale_of s = record {
  half = half_of s;
  notes = notes_of s;
  width = max (notes_of s + 6 * widest_note 0 s.notes + 20) 860;
  height = y_of s.height + 30;
}

-- a piece of a message's way begins at its sender's column, or where the message was copied
abbrev pub leg_start : ℕ → Leg → ℕ
leg_start half leg =
    if leg.message.split then short_of half leg.message.summary.from leg.message.summary.to
    else x_of half leg.message.summary.from

-- it ends at the receiver's column where the message is delivered, and else in front of it
abbrev pub end_at : ℕ → Leg → LegEnd → ℕ
end_at half leg ending.Delivered = x_of half leg.message.summary.to
end_at half leg _ = short_of half leg.message.summary.from leg.message.summary.to

abbrev pub leg_end : ℕ → Leg → ℕ
leg_end half leg = end_at half leg leg.end
