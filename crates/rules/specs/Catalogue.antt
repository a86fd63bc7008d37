-- The catalogue in force: the categories that the library reads and writes (document 01, "What the reader and writer cover"; document 02, W-205). Every rule takes the list of
-- categories, so an edition in which a category's tables differ is one more list here. Assumes nothing.
use Rattle.std.specs.Prelude.{List, [], ◌∷◌}
use Rattle.rules.specs.Record.{Category}
use Rattle.rules.specs.Category017.{category017}
use Rattle.rules.specs.Category018.{category018}
use Rattle.rules.specs.Category061.{category061}

unfoldable pub categories : List Category
categories = category017 ∷ category018 ∷ category061 ∷ []
