mod RunLemmas
mod NothingDone
mod MakeLemmas
mod ReportLemmas
mod ScriptLemmas
mod CompleteLemmas
mod EndLemmas
mod LoadLemmas
