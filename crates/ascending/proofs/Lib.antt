pub mod SortLaws
pub mod RankLaws
