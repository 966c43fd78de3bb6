-- Marks: whether anything stands at a place.
use Rattle.std.specs.Prelude.{ℕ, false, cond, ◌&&◌, ◌||◌}
use Rattle.arith.specs.declared.marks.Mark.{Mark}

abbrev pub off : Mark
off = record { on = false }

-- on where a is, and where u and v both are
abbrev pub updated_mark : Mark → Mark → Mark → Mark → Mark
updated_mark a u d v = record { on = a.on || (u.on && v.on) }

-- 1 where d is off
abbrev pub judged_mark : Mark → ℕ
judged_mark d = cond d.on 0 1
