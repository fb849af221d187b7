-- What is read as a statement, or as a line, is in the grammar.
use Rattle.std.proofs.Common.{◌≡◌, ℕ, List, [], ◌∷◌, ◌++◌, Some, map, codes, sym, ap, subst, append_assoc, append-nil}
use Rattle.ctr_types.specs.declared.statement.Statement.{Statement}
use Rattle.ctr_types.specs.declared.statement.Statement.TheVariants as st
use Rattle.ctr_types.specs.declared.statement.Line.{Line}
use Rattle.ctr_model.specs.Grammar.{Part, key, name, sign, session, open_paren, close_paren, capital, literals, schema_parts, where_parts, sets_parts, statement_parts, IsWithin}
use Rattle.ctr_model.specs.Language.{MatchParts, SpellsStatement, SpellsLine}
use Rattle.ctr_parse.specs.declared.word.Verb.{Verb}
use Rattle.ctr_parse.specs.declared.word.Verb.TheVariants as verb
use Rattle.ctr_parse.specs.Trees.{Tree, done, verb_of, session_of, keyword_then, sign_then, name_then, key_is_then, optional_then, values_then, sets_then, schema_then, create_then, drop_then, insert_then, select_then, update_then, delete_then, verb_then, statement_then, alone, whole_line}
use Rattle.ctr_parse.proofs.Trees.{runs, one_is, done_is}
use Rattle.ctr_parse.proofs.Meanings.{word_of, verb_means, session_means}
use Rattle.ctr_parse.proofs.Read.{Was, stands, keyword_is, sign_is, name_is, key_parts, key_was, optional_parts, optional_was, values_were, sets_were}
use Rattle.ctr_parse.proofs.ReadColumns.{schema_was}

-- the places of a statement before others
abbrev pub statement_places : Statement → List Part → List Part
statement_places s ps = statement_parts s ++ ps

-- a statement behind its first word
abbrev Behind : {A : Type 0} → List ℕ → (Statement → Tree A) → List (List ℕ) → List ℕ → List (List ℕ) → A → Type 0
Behind word next ts t rest a = ts ≡ t ∷ rest → map capital t ≡ word → Was next statement_places IsWithin ts a

create_was : {A : Type 0} (next : Statement → Tree A) (ts : List (List ℕ)) (t : List ℕ) (rest : List (List ℕ)) (a : A) → runs (create_then next) rest ≡ Some a → Behind (codes "CREATE") next ts t rest a
unfolding create_then
create_was next ts t rest a h e is =
    let b = keyword_is (codes "TABLE") (name_then (λ table. sign_then 40 (schema_then (λ cs. next (st.Create table (record { columns = cs })))))) rest a h in
    let n = name_is (λ table. sign_then 40 (schema_then (λ cs. next (st.Create table (record { columns = cs }))))) b.0 a b.1 in
    let o = sign_is 40 (schema_then (λ cs. next (st.Create n.item (record { columns = cs })))) n.rest a n.reads in
    let c = schema_was (λ cs. next (st.Create n.item (record { columns = cs }))) o.0 a o.1 in
    record {
      item = st.Create n.item (record { columns = c.item });
      rest = c.rest;
      fit = c.fit;
      reads = c.reads;
      stand = λ ps m.
          let on : List Part = schema_parts c.item ++ close_paren ∷ ps in
          let regrouped : on ≡ (schema_parts c.item ++ close_paren ∷ []) ++ ps = sym (append_assoc (schema_parts c.item) (close_paren ∷ []) ps) in
          subst (λ qs. MatchParts ts (key (codes "CREATE") ∷ key (codes "TABLE") ∷ name n.item ∷ open_paren ∷ qs)) regrouped
          (stands (key (codes "CREATE")) t ts rest e is (key (codes "TABLE") ∷ name n.item ∷ open_paren ∷ on)
          (b.2 (name n.item ∷ open_paren ∷ on) (n.stand (open_paren ∷ on) (o.2 on (c.stand ps m)))));
    }

drop_was : {A : Type 0} (next : Statement → Tree A) (ts : List (List ℕ)) (t : List ℕ) (rest : List (List ℕ)) (a : A) → runs (drop_then next) rest ≡ Some a → Behind (codes "DROP") next ts t rest a
unfolding drop_then
drop_was next ts t rest a h e is =
    let b = keyword_is (codes "TABLE") (name_then (λ table. next (st.DropTable table))) rest a h in
    let n = name_is (λ table. next (st.DropTable table)) b.0 a b.1 in
    record {
      item = st.DropTable n.item;
      rest = n.rest;
      fit = tt;
      reads = n.reads;
      stand = λ ps m. stands (key (codes "DROP")) t ts rest e is (key (codes "TABLE") ∷ name n.item ∷ ps) (b.2 (name n.item ∷ ps) (n.stand ps m));
    }

insert_was : {A : Type 0} (next : Statement → Tree A) (ts : List (List ℕ)) (t : List ℕ) (rest : List (List ℕ)) (a : A) → runs (insert_then next) rest ≡ Some a → Behind (codes "INSERT") next ts t rest a
unfolding insert_then
insert_was next ts t rest a h e is =
    let b = keyword_is (codes "INTO") (name_then (λ table. keyword_then (codes "VALUES") (sign_then 40 (values_then 7 [] (λ vs. next (st.Insert table vs)))))) rest a h in
    let n = name_is (λ table. keyword_then (codes "VALUES") (sign_then 40 (values_then 7 [] (λ vs. next (st.Insert table vs))))) b.0 a b.1 in
    let w = keyword_is (codes "VALUES") (sign_then 40 (values_then 7 [] (λ vs. next (st.Insert n.item vs)))) n.rest a n.reads in
    let o = sign_is 40 (values_then 7 [] (λ vs. next (st.Insert n.item vs))) w.0 a w.1 in
    let v = values_were 7 [] (λ vs. next (st.Insert n.item vs)) o.0 a o.1 in
    record {
      item = st.Insert n.item v.item;
      rest = v.rest;
      fit = (v.some, v.few);
      reads = v.reads;
      stand = λ ps m.
          let on : List Part = literals v.item ++ close_paren ∷ ps in
          let regrouped : on ≡ (literals v.item ++ close_paren ∷ []) ++ ps = sym (append_assoc (literals v.item) (close_paren ∷ []) ps) in
          subst (λ qs. MatchParts ts (key (codes "INSERT") ∷ key (codes "INTO") ∷ name n.item ∷ key (codes "VALUES") ∷ open_paren ∷ qs)) regrouped
          (stands (key (codes "INSERT")) t ts rest e is (key (codes "INTO") ∷ name n.item ∷ key (codes "VALUES") ∷ open_paren ∷ on)
          (b.2 (name n.item ∷ key (codes "VALUES") ∷ open_paren ∷ on) (n.stand (key (codes "VALUES") ∷ open_paren ∷ on) (w.2 (open_paren ∷ on) (o.2 on (v.stand ps m))))));
    }

select_was : {A : Type 0} (next : Statement → Tree A) (ts : List (List ℕ)) (t : List ℕ) (rest : List (List ℕ)) (a : A) → runs (select_then next) rest ≡ Some a → Behind (codes "SELECT") next ts t rest a
unfolding select_then
select_was next ts t rest a h e is =
    let s = sign_is 42 (keyword_then (codes "FROM") (name_then (λ table. optional_then (λ at. next (st.Select table at))))) rest a h in
    let f = keyword_is (codes "FROM") (name_then (λ table. optional_then (λ at. next (st.Select table at)))) s.0 a s.1 in
    let n = name_is (λ table. optional_then (λ at. next (st.Select table at))) f.0 a f.1 in
    let w = optional_was (λ at. next (st.Select n.item at)) n.rest a n.reads in
    record {
      item = st.Select n.item w.item;
      rest = w.rest;
      fit = tt;
      reads = w.reads;
      stand = λ ps m.
          let on = optional_parts w.item ps in
          stands (key (codes "SELECT")) t ts rest e is (sign 42 ∷ key (codes "FROM") ∷ name n.item ∷ on)
          (s.2 (key (codes "FROM") ∷ name n.item ∷ on) (f.2 (name n.item ∷ on) (n.stand on (w.stand ps m))));
    }

update_was : {A : Type 0} (next : Statement → Tree A) (ts : List (List ℕ)) (t : List ℕ) (rest : List (List ℕ)) (a : A) → runs (update_then next) rest ≡ Some a → Behind (codes "UPDATE") next ts t rest a
unfolding update_then
update_was next ts t rest a h e is =
    let n = name_is (λ table. keyword_then (codes "SET") (sets_then 7 [] (λ sets. key_is_then (λ at. next (st.Update table sets at))))) rest a h in
    let b = keyword_is (codes "SET") (sets_then 7 [] (λ sets. key_is_then (λ at. next (st.Update n.item sets at)))) n.rest a n.reads in
    let v = sets_were 7 [] (λ sets. key_is_then (λ at. next (st.Update n.item sets at))) b.0 a b.1 in
    let w = key_was (λ at. next (st.Update n.item v.item at)) v.rest a v.reads in
    record {
      item = st.Update n.item v.item w.item;
      rest = w.rest;
      fit = (v.some, v.few);
      reads = w.reads;
      stand = λ ps m.
          let on : List Part = sets_parts v.item ++ key (codes "WHERE") ∷ key_parts w.item ps in
          let regrouped : on ≡ (sets_parts v.item ++ where_parts w.item) ++ ps = sym (append_assoc (sets_parts v.item) (where_parts w.item) ps) in
          subst (λ qs. MatchParts ts (key (codes "UPDATE") ∷ name n.item ∷ key (codes "SET") ∷ qs)) regrouped
          (stands (key (codes "UPDATE")) t ts rest e is (name n.item ∷ key (codes "SET") ∷ on)
          (n.stand (key (codes "SET") ∷ on) (b.2 on (v.stand (key_parts w.item ps) (w.stand ps m)))));
    }

delete_was : {A : Type 0} (next : Statement → Tree A) (ts : List (List ℕ)) (t : List ℕ) (rest : List (List ℕ)) (a : A) → runs (delete_then next) rest ≡ Some a → Behind (codes "DELETE") next ts t rest a
unfolding delete_then
delete_was next ts t rest a h e is =
    let f = keyword_is (codes "FROM") (name_then (λ table. keyword_then (codes "WHERE") (key_is_then (λ at. next (st.Delete table at))))) rest a h in
    let n = name_is (λ table. keyword_then (codes "WHERE") (key_is_then (λ at. next (st.Delete table at)))) f.0 a f.1 in
    let b = keyword_is (codes "WHERE") (key_is_then (λ at. next (st.Delete n.item at))) n.rest a n.reads in
    let w = key_was (λ at. next (st.Delete n.item at)) b.0 a b.1 in
    record {
      item = st.Delete n.item w.item;
      rest = w.rest;
      fit = tt;
      reads = w.reads;
      stand = λ ps m.
          let on = key_parts w.item ps in
          stands (key (codes "DELETE")) t ts rest e is (key (codes "FROM") ∷ name n.item ∷ key (codes "WHERE") ∷ on)
          (f.2 (name n.item ∷ key (codes "WHERE") ∷ on) (n.stand (key (codes "WHERE") ∷ on) (b.2 on (w.stand ps m))));
    }

verb_was : {A : Type 0} (next : Statement → Tree A) (ts : List (List ℕ)) (t : List ℕ) (rest : List (List ℕ)) (a : A) (v : Verb) → runs (verb_then next v) rest ≡ Some a → Behind (word_of v) next ts t rest a
verb_was next ts t rest a verb.Begin h e is = record { item = st.Begin; rest = rest; fit = tt; reads = h; stand = stands (key (codes "BEGIN")) t ts rest e is }
verb_was next ts t rest a verb.Commit h e is = record { item = st.Commit; rest = rest; fit = tt; reads = h; stand = stands (key (codes "COMMIT")) t ts rest e is }
verb_was next ts t rest a verb.Rollback h e is = record { item = st.Rollback; rest = rest; fit = tt; reads = h; stand = stands (key (codes "ROLLBACK")) t ts rest e is }
verb_was next ts t rest a verb.Create h e is = create_was next ts t rest a h e is
verb_was next ts t rest a verb.Remove h e is = drop_was next ts t rest a h e is
verb_was next ts t rest a verb.Insert h e is = insert_was next ts t rest a h e is
verb_was next ts t rest a verb.Select h e is = select_was next ts t rest a h e is
verb_was next ts t rest a verb.Update h e is = update_was next ts t rest a h e is
verb_was next ts t rest a verb.Delete h e is = delete_was next ts t rest a h e is

statement_was : {A : Type 0} (next : Statement → Tree A) (ts : List (List ℕ)) (a : A) → runs (statement_then next) ts ≡ Some a → Was next statement_places IsWithin ts a
unfolding statement_then
statement_was next ts a h =
    let w = one_is verb_of (verb_then next) ts a h in
    verb_was next ts w.token w.rest a w.item w.reads w.split (verb_means w.token w.item w.means)

nothing : {ps : List (List ℕ)} → ps ≡ [] → MatchParts ps []
nothing e = subst (λ ts. MatchParts ts []) (sym e) tt

-- a statement alone
pub alone_was : (ts : List (List ℕ)) (l : Line) → runs alone ts ≡ Some l → SpellsStatement ts l.statement × (l.session ≡ 1)
unfolding alone
alone_was ts l h =
    let w = statement_was (λ s. done {A = Line} (record { session = 1; statement = s })) ts l h in
    let one : Line = record { session = 1; statement = w.item } in
    let d = done_is one l w.rest w.reads in
    let is : SpellsStatement ts w.item = record { within = w.fit; spelled = subst (MatchParts ts) (append-nil (statement_parts w.item)) (w.stand [] (nothing d.0)) } in
    (subst (λ (m : Line). SpellsStatement ts m.statement) d.1 is, sym (ap (λ (m : Line). m.session) d.1))

-- a whole line
pub line_was : (ts : List (List ℕ)) (l : Line) → runs whole_line ts ≡ Some l → SpellsLine ts l
unfolding whole_line
line_was ts l h =
    let n = one_is session_of (λ n. sign_then 62 (statement_then (λ s. sign_then 59 (done {A = Line} (record { session = n; statement = s }))))) ts l h in
    let is = session_means n.token n.item n.means in
    let g = sign_is 62 (statement_then (λ s. sign_then 59 (done {A = Line} (record { session = n.item; statement = s })))) n.rest l n.reads in
    let w = statement_was (λ s. sign_then 59 (done {A = Line} (record { session = n.item; statement = s }))) g.0 l g.1 in
    let one : Line = record { session = n.item; statement = w.item } in
    let e = sign_is 59 (done one) w.rest l w.reads in
    let d = done_is one l e.0 e.1 in
    let all = stands (session n.item) n.token ts n.rest n.split is.2 (sign 62 ∷ (statement_parts w.item ++ sign 59 ∷ []))
    (g.2 (statement_parts w.item ++ sign 59 ∷ []) (w.stand (sign 59 ∷ []) (e.2 [] (nothing d.0)))) in
    subst (SpellsLine ts) d.1 (record { low = is.0; high = is.1; within = w.fit; spelled = all })
