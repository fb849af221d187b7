-- The statements of a generated script.
use Rattle.std.specs.Prelude.{ℤ, List, [], ◌∷◌, Some, codes}
use Rattle.ctr_types.specs.declared.value.Column.{Column}
use Rattle.ctr_types.specs.declared.value.Kind.TheVariants as kind
use Rattle.ctr_types.specs.declared.value.Value.TheVariants as value
use Rattle.ctr_types.specs.declared.statement.KeyIs.{KeyIs}
use Rattle.ctr_types.specs.declared.statement.SetTo.TheVariants as to
use Rattle.ctr_types.specs.declared.statement.Statement.{Statement}
use Rattle.ctr_types.specs.declared.statement.Statement.TheVariants as st

-- k INT PRIMARY KEY, v INT, s TEXT(12)
abbrev pub load_columns : List Column
load_columns =
    record { name = codes "k"; kind = kind.Int }
    ∷ record { name = codes "v"; kind = kind.Int }
    ∷ record { name = codes "s"; kind = kind.Chars 12 } ∷ []

-- CREATE TABLE load (k INT PRIMARY KEY, v INT, s TEXT(12))
abbrev pub create_load : Statement
create_load = st.Create (codes "load") (record { columns = load_columns })

-- The condition that names a row by its key.
abbrev pub key_is : ℤ → KeyIs
key_is key = record { column = codes "k"; key = key }

-- INSERT INTO load VALUES (key, number, 'row')
abbrev pub insert_of : ℤ → ℤ → Statement
insert_of key number =
    st.Insert (codes "load")
    (value.Int key ∷ value.Int number ∷ value.Chars (codes "row") ∷ [])

-- UPDATE load SET v = v + number WHERE k = key
abbrev pub update_of : ℤ → ℤ → Statement
update_of key number =
    st.Update (codes "load")
    (record { column = codes "v"; to = to.Sum (codes "v") number } ∷ []) (key_is key)

-- DELETE FROM load WHERE k = key
abbrev pub delete_of : ℤ → Statement
delete_of key = st.Delete (codes "load") (key_is key)

-- SELECT * FROM load WHERE k = key
abbrev pub select_of : ℤ → Statement
select_of key = st.Select (codes "load") (Some (key_is key))
