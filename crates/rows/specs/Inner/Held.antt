-- What the code's structs with a fact of their own hold, as the definitions of Code.antt take it. Inner definitions. No
-- assumptions.
use Rattle.stoichiometry.specs.Rows as rows
use Rattle.rows.specs.declared.released.Released.{Released}
use Rattle.rows.specs.declared.kind.Kind.{Kind}
use Rattle.rows.specs.Inner.Code as code

abbrev pub elements_of : Released → rows.Released
elements_of r = record { c = r.c; h = r.h; o = r.o; n = r.n; p = r.p }

abbrev pub numbers_of : Kind → code.Kind
numbers_of k =
    record {
      nitrate = k.nitrate;
      nitrite = k.nitrite;
      nh4no2 = k.nh4no2;
      no2no3 = k.no2no3;
      adsorbed = k.adsorbed;
      no3no2 = k.no3no2;
      no2n2 = k.no2n2;
      no3n2 = k.no3n2;
    }
