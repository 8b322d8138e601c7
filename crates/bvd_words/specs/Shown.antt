-- What the reader's values stand for, and what a word comes to where the reader stands.
use Rattle.std.specs.Prelude.{◌≡◌, ℕ, List, ◌∷◌, ◌++◌, map, Option, Some, None, option_map}
use Rattle.bvd_words.specs.declared.reader.Kind.{Kind}
use Rattle.bvd_words.specs.declared.reader.Kind.TheVariants as kind
use Rattle.bvd_words.specs.declared.reader.CommandOption.{CommandOption}
use Rattle.bvd_words.specs.declared.reader.WordKind.{WordKind}
use Rattle.bvd_words.specs.declared.reader.WordKind.TheVariants as word_kind
use Rattle.bvd_words.specs.declared.reader.Item.{Item}
use Rattle.bvd_words.specs.declared.reader.Item.TheVariants as item
use Rattle.bvd_words.specs.declared.reader.State.{State}
use Rattle.bvd_words.specs.declared.reader.State.TheVariants as state
use Rattle.bvd_words.specs.declared.reader.Turn.{Turn}
use Rattle.bvd_words.specs.declared.reader.Turn.TheVariants as turn
use Rattle.bvd_words.specs.Words as spec

abbrev pub kind_shown : Kind → spec.Kind
kind_shown kind.Switch = spec.Kind.Switch
kind_shown (kind.Number least most) = spec.Kind.Number least most

abbrev pub table : List CommandOption → spec.Options
table options = map (λ o. (o.name.now, kind_shown o.kind)) options

abbrev pub word_shown : WordKind → spec.Word
word_shown word_kind.End = spec.Word.End
word_shown word_kind.Plain = spec.Word.Plain
word_shown (word_kind.Named x text) = spec.Word.Named x.now (option_map (λ t. t.now) text)
word_shown word_kind.Dashed = spec.Word.Dashed

abbrev pub item_shown : Item → spec.Item
item_shown (item.Flag x) = spec.Item.Flag x.now
item_shown (item.Valued x n) = spec.Item.Valued x.now n.now
item_shown (item.File f) = spec.Item.File f.now

abbrev pub items_shown : List Item → List spec.Item
items_shown items = map item_shown items

-- what a word comes to, by what follows it: where no option waits, where one does, and behind `--`
abbrev pub turn_gives : Turn → Option (List spec.Item) → (List ℕ → Option (List spec.Item)) → Option (List spec.Item) → Option (List spec.Item)
turn_gives turn.Refused rest waiting ended = None
turn_gives (turn.Gives i) rest waiting ended = spec.with_item (item_shown i) rest
turn_gives (turn.Waits x) rest waiting ended = waiting x.now
turn_gives turn.Ends rest waiting ended = ended

-- the items of the words that are left
abbrev pub left : spec.Options → State → List (List ℕ) → Option (List spec.Item)
left os state.Free words = spec.cut os None words
left os (state.Waiting x) words = spec.cut os (Some x.now) words
left os state.Ended words = Some (map spec.Item.File words)

-- where the reader stands behind an item
abbrev pub behind_item : State → State
behind_item state.Free = state.Free
behind_item (state.Waiting x) = state.Free
behind_item state.Ended = state.Ended

abbrev pub turned : spec.Options → State → Turn → List (List ℕ) → Option (List spec.Item)
turned os s t words = turn_gives t (left os (behind_item s) words) (λ x. spec.cut os (Some x) words) (Some (map spec.Item.File words))

-- the turn is that of the word, whatever follows it
abbrev pub IsTurn : spec.Options → State → List ℕ → Turn → Type 0
IsTurn os s word t = (words : List (List ℕ)) → left os s (word ∷ words) ≡ turned os s t words

-- items before others that may not be there
abbrev pub prefixed : List spec.Item → Option (List spec.Item) → Option (List spec.Item)
prefixed items others = option_map (λ more. items ++ more) others
