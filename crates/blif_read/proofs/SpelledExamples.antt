-- Small designs with the texts that spell them: a false definition fails here.
use Rattle.std.proofs.Common.{◌≡◌, ◌<◌, ℕ, true, false, [], ◌∷◌, length, All, codes, refl, arith}
use Rattle.std.specs.List.{IsDistinct}
use Rattle.std.proofs.lemmas.List.Elements.{All-nil, All-cons}
use Rattle.std.proofs.lemmas.List.Sums.{AllPass-from_list_all}
use Rattle.blif_model.specs.declared.design.Bit.TheVariants.{Zero, One, Any}
use Rattle.blif_model.specs.declared.design.Cube.{Cube}
use Rattle.blif_model.specs.declared.design.Table.{Table}
use Rattle.blif_model.specs.declared.design.Design.{Design}
use Rattle.blif_model.specs.Regular.{IsTable}
use Rattle.blif_read.specs.Spelling.{text_of, is_plain_byte, IsPlainName, IsSpellable}

-- an AND of two inputs
abbrev an_and : Design
an_and = record {
  name = codes "m";
  names = codes "a" ∷ codes "b" ∷ codes "f" ∷ [];
  inputs = 0 ∷ 1 ∷ [];
  outputs = 2 ∷ [];
  tables = record { line = 4; pins = 0 ∷ 1 ∷ []; target = 2; rows = record { bits = One ∷ One ∷ [] } ∷ []; on = true } ∷ [];
}

text_of_an_and : text_of an_and ≡ codes ".model m\n.inputs a b\n.outputs f\n.names a b f\n11 1\n.end\n"
text_of_an_and = refl

-- rows with output 0, a constant, and a table without rows, which is on
text_of_tables : text_of (record {
  name = codes "top";
  names = codes "f" ∷ codes "a" ∷ codes "g_1" ∷ codes "h" ∷ [];
  inputs = [];
  outputs = 0 ∷ [];
  tables =
      record { line = 4; pins = 1 ∷ 1 ∷ []; target = 0; rows = record { bits = Zero ∷ Any ∷ [] } ∷ record { bits = One ∷ Zero ∷ [] } ∷ []; on = false }
      ∷ record { line = 7; pins = []; target = 2; rows = record { bits = [] } ∷ []; on = true }
      ∷ record { line = 9; pins = []; target = 3; rows = []; on = true }
      ∷ [];
}) ≡ codes ".model top\n.inputs\n.outputs f\n.names a a f\n0- 0\n10 0\n.names g_1\n1\n.names h\n.end\n"
text_of_tables = refl

-- the AND has a text
a_letter : (byte : ℕ) → is_plain_byte byte ≡ true → IsPlainName (byte ∷ [])
a_letter byte plain = record { some = omega arith; short = omega arith; plain = AllPass-from_list_all is_plain_byte (byte ∷ []) (rw plain refl) }

an_and-IsSpellable : IsSpellable an_and
unfolding IsDistinct
an_and-IsSpellable =
    let Below = λ (signal : ℕ). signal < 3 in
    let inputs : All Below (0 ∷ 1 ∷ []) = All-cons Below 0 (1 ∷ []) (omega arith) (All-cons Below 1 [] (omega arith) (All-nil Below)) in
    let Row = λ (row : Cube). length row.bits ≡ 2 in
    let table : Table = record { line = 4; pins = 0 ∷ 1 ∷ []; target = 2; rows = record { bits = One ∷ One ∷ [] } ∷ []; on = true } in
    let named : IsTable 3 table = record { target = omega arith; pins = inputs; few_pins = omega arith; rows = All-cons Row (record { bits = One ∷ One ∷ [] }) [] refl (All-nil Row) } in
    let On = λ (table : Table). length table.rows ≡ 0 → table.on ≡ true in
    record {
      regular = record {
        inputs = record { named = inputs; distinct = ((refl, tt), (tt, tt)); few = omega arith };
        outputs = record { named = All-cons Below 2 [] (omega arith) (All-nil Below); distinct = (tt, tt); few = omega arith };
        tables = All-cons (IsTable 3) table [] named (All-nil (IsTable 3));
        few_tables = omega arith;
      };
      model = a_letter 109 refl;
      names = All-cons IsPlainName (codes "a") (codes "b" ∷ codes "f" ∷ []) (a_letter 97 refl) (All-cons IsPlainName (codes "b") (codes "f" ∷ []) (a_letter 98 refl) (All-cons IsPlainName (codes "f") [] (a_letter 102 refl) (All-nil IsPlainName)));
      numbered = refl;
      lines = (refl, tt);
      on = All-cons On table [] (λ none. refl) (All-nil On);
    }
