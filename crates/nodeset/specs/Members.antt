-- The members of a set, one after another.
use Rattle.std.specs.Prelude.{◌≡◌, ℕ, ◌+◌, Some, None, Option}
use Rattle.nodeset.specs.declared.sets.members.Members.{Members}
use Rattle.nodeset.specs.Sets.{has, FindsLeast}

-- where the members go on after one, or after none
abbrev pub after : Members → Option ℕ → ℕ
after s None = s.from
after s (Some x) = x + 1

-- what comes is the least member from `from` on, or that there is none; of the same set, what comes later is more
pub record GivesMember (s : Members) (o : Option ℕ) (t : Members) : Type 0 where
  pub least : FindsLeast (has s.set) s.from o
  pub set : t.set ≡ s.set
  pub from : t.from ≡ after s o
