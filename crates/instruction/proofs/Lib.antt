pub mod CodeTable
pub mod MirroredScripts
