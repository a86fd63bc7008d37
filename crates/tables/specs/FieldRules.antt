-- The fields that have a rule, spare or with a range, as the check of an item asks them: the field's code, moved so that what is legal
-- starts at 0, is at most a limit. A field without a rule is free and is not asked. Assumes nothing.
use Rattle.std.specs.Prelude.{ℕ, ◌+◌, ◌-◌, ◌/◌, ◌%◌, ◌^◌, Bool, true, cond, ◌&&◌, List, [], ◌∷◌, map, leb, length, get_or}
use Rattle.rules.specs.Field.{Field, spare, value, unsigned, signed, bits}
use Rattle.rules.specs.Chain.{flatten}
use Rattle.rules.specs.Format.{Group}
use Rattle.rules.specs.Catalogue.{categories}
use Rattle.tables.specs.declared.field_rules.RuleRow.{RuleRow}
use Rattle.tables.specs.declared.tables.LayoutRow.{LayoutRow}
use Rattle.tables.specs.declared.tables.Kind.TheVariants.{Fixed}
use Rattle.tables.specs.Tables.{same_kind, groups, group_rows, group_at, layout_at, profile_rows, is_free}

-- how many bits stand below the field, how many it has, what is added to its code, and the limit
pub record Rule : Type 0 where
  pub shift : ℕ
  pub width : ℕ
  pub added : ℕ
  pub limit : ℕ

abbrev pub rule_of : Field → ℕ → Rule
rule_of (spare w) k = record { shift = k; width = w; added = 0; limit = 0 }
rule_of (value w (unsigned lo hi)) k = record { shift = k; width = w; added = (2 ^ w - lo) % 2 ^ w; limit = hi - lo }
rule_of (value w (signed lo hi)) k = record { shift = k; width = w; added = lo; limit = lo + hi }

abbrev pub rules_of : List Field → List Rule
rules_of [] = []
rules_of (f ∷ fs) = cond (is_free (f ∷ [])) (rules_of fs) (rule_of f (bits fs) ∷ rules_of fs)

-- a number obeys a rule, and each of some rules
unfoldable pub obeys : Rule → ℕ → Bool
obeys r n = leb ((n / 2 ^ r.shift + r.added) % 2 ^ r.width) r.limit

abbrev pub all_obeyed : List Rule → ℕ → Bool
all_obeyed [] n = true
all_obeyed (r ∷ rs) n = obeys r n && all_obeyed rs n

-- ---- the tables of the code

unfoldable pub rules : List Rule
rules = flatten (map (λ g. rules_of g.fields) groups)

abbrev pub rule_count : ℕ
rule_count = length rules

-- the place of each group's first rule, and of the end
abbrev pub first_rules : ℕ → List Group → List ℕ
first_rules k [] = k ∷ []
first_rules k (g ∷ gs) = k ∷ first_rules (k + length (rules_of g.fields)) gs

unfoldable pub first_rule : ℕ → ℕ
first_rule g = get_or (first_rules 0 groups) g 0

unfoldable pub rule_at : ℕ → Rule
rule_at i = get_or rules i (record { shift = 0; width = 0; added = 0; limit = 0 })

-- a rule's four columns
abbrev pub rule_row : Rule → RuleRow
rule_row r = (r.shift, r.width, r.added, r.limit)

unfoldable pub rule_rows : List RuleRow
rule_rows = map rule_row rules

unfoldable pub sizes : List ℕ
sizes = map (λ r. r.octets) (group_rows 0 groups)

-- of an item with one part, its octets where it is free, and else 8 more than the place of its group; of any other item 0
abbrev pub single_of : LayoutRow → ℕ
single_of l = cond (same_kind l.kind Fixed) (cond (group_at l.first).free (group_at l.first).octets (8 + l.first)) 0

unfoldable pub singles : List ℕ
singles = map (λ r. single_of (layout_at r.layout)) (profile_rows 1 categories)
