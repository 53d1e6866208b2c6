-- All demands together. Assumes nothing: these are definitions.
use Rattle.std.specs.Prelude.{ℕ}
use Rattle.tables.specs.Table.{Limits}
use Rattle.tubochre.specs.Demand.{CheckDemand, SecondDemand, RefusedBuilds, LassoDemand, TrayDemand, ThirdDemand, ThirdTray}
use Rattle.tubochre.specs.Merging.{MergeDemand, MergedDemand}

-- ALL OF THEM, for tables of a range in words of so many bits
pub record Demands (bits : ℕ) (range : Limits) : Type 0 where
  -- of patterns alone
  pub check : CheckDemand
  pub merge : MergeDemand
  -- of tables of the range
  pub second : SecondDemand bits range
  pub refused : RefusedBuilds range
  pub lassos : LassoDemand range
  pub trays : TrayDemand range
  pub third : ThirdDemand range
  pub third_tray : ThirdTray range
  pub merged : MergedDemand range
