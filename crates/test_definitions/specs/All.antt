-- All cases together.
use Rattle.std.specs.Prelude.{List, ◌++◌}
use Rattle.test_definitions.specs.Case.{Case}
use Rattle.test_definitions.specs.Reading1 as Reading1
use Rattle.test_definitions.specs.Reading2 as Reading2
use Rattle.test_definitions.specs.Reading3 as Reading3
use Rattle.test_definitions.specs.Reading4 as Reading4
use Rattle.test_definitions.specs.Reading5 as Reading5
use Rattle.test_definitions.specs.Reading6 as Reading6
use Rattle.test_definitions.specs.Meaning1 as Meaning1
use Rattle.test_definitions.specs.Meaning2 as Meaning2
use Rattle.test_definitions.specs.Plans1 as Plans1
use Rattle.test_definitions.specs.Plans2 as Plans2
use Rattle.test_definitions.specs.Searches1 as Searches1
use Rattle.test_definitions.specs.Searches2 as Searches2
use Rattle.test_definitions.specs.Searches3 as Searches3
use Rattle.test_definitions.specs.Searches4 as Searches4
use Rattle.test_definitions.specs.Searches5 as Searches5
use Rattle.test_definitions.specs.Loads1 as Loads1
use Rattle.test_definitions.specs.Loads2 as Loads2
use Rattle.test_definitions.specs.Loads3 as Loads3
use Rattle.test_definitions.specs.Widths1 as Widths1
use Rattle.test_definitions.specs.Widths2 as Widths2
use Rattle.test_definitions.specs.Widths3 as Widths3
use Rattle.test_definitions.specs.Ranges1 as Ranges1
use Rattle.test_definitions.specs.Ranges2 as Ranges2
use Rattle.test_definitions.specs.Ranges3 as Ranges3
use Rattle.test_definitions.specs.Ranges4 as Ranges4
use Rattle.test_definitions.specs.Ranges5 as Ranges5

abbrev pub cases : List Case
cases = Reading1.cases ++ Reading2.cases ++ Reading3.cases ++ Reading4.cases ++ Reading5.cases ++ Reading6.cases ++ Meaning1.cases ++ Meaning2.cases ++ Plans1.cases ++ Plans2.cases ++ Searches1.cases ++ Searches2.cases ++ Searches3.cases ++ Searches4.cases ++ Searches5.cases ++ Loads1.cases ++ Loads2.cases ++ Loads3.cases ++ Widths1.cases ++ Widths2.cases ++ Widths3.cases ++ Ranges1.cases ++ Ranges2.cases ++ Ranges3.cases ++ Ranges4.cases ++ Ranges5.cases
