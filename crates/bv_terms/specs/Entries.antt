-- Which item is kept on the stack.
use Rattle.bv_typing.specs.declared.item.Item.{Item}
use Rattle.bv_typing.specs.declared.item.Item.TheVariants.{Number, Made}
use Rattle.bv_terms.specs.declared.entry.Kept.{Kept}
use Rattle.bv_terms.specs.declared.entry.Kept.TheVariants as kept

abbrev pub item_of : Kept → Item
item_of (kept.Number n) = Number n
item_of (kept.Term x) = Made x.value
