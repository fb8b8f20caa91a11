-- antt computes that none of the columns is refused.
use mathlib.Core.Path.{refl}
use lib.Dec.{lit<, lit≤}
use Rattle.meaning.specs.Below.{any_below}
use Rattle.meaning.specs.IndexRefusals.{wrong1, wrong6, wrong_column}
use Rattle.vectors_doc_values.proofs.main.Goals as goal

pub print_column-requires : goal.print_column-requires
unfolding wrong1 wrong6 wrong_column any_below
print_column-requires c = record { documents = refl; records = refl; there = lit< tt; few = lit≤ tt }

pub print_column-requires-2 : goal.print_column-requires-2
unfolding wrong1 wrong6 wrong_column any_below
print_column-requires-2 c = record { documents = refl; records = refl; there = lit< tt; few = lit≤ tt }

pub print_column-requires-3 : goal.print_column-requires-3
unfolding wrong1 wrong6 wrong_column any_below
print_column-requires-3 c = record { documents = refl; records = refl; there = lit< tt; few = lit≤ tt }

pub print_column-requires-4 : goal.print_column-requires-4
unfolding wrong1 wrong6 wrong_column any_below
print_column-requires-4 c = record { documents = refl; records = refl; there = lit< tt; few = lit≤ tt }

pub print_column-requires-5 : goal.print_column-requires-5
unfolding wrong1 wrong6 wrong_column any_below
print_column-requires-5 c = record { documents = refl; records = refl; there = lit< tt; few = lit≤ tt }
